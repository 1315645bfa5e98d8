-- `trialfile::reader::read_figures` meets its contract.
use mathlib.Core.Path.{ap, ◌∙◌}
use Prim.Native.Nat.{◌%◌}
use native.Mathlib.Omega.{arith}
use lib.IntN.{pos}
use Rattle.limits.specs.Limits.{figures_most}
use Rattle.words.specs.Words.{words_of, difference_of}
use Rattle.words.proofs.Signed.{field-kept}
use Rattle.trialfile.specs.Files.{figure_in}
use Rattle.trialfile.proofs.Arrays.{fill_start, fill-turn, fill_end}
use Rattle.trialfile.proofs.reader.read_figures.Goals as goal

pub loop-i-init : goal.loop-i-init
loop-i-init c = fill_start _ _ _

pub loop-i-preserved : goal.loop-i-preserved
loop-i-preserved c =
    let l = c.loop-i in
    let a = c.args in
    fill-turn (figure_in (words_of a.file.now) a.l) figures_most (pos 0) l.i l.figures _ (omega (arith, c.requires.0, c.loop-i-test.true)) l.invariant
    (field-kept (c.word_here.result % 268435456) c.difference_of.result (omega arith) c.difference_of.ensures ∙ ap difference_of c.word_here.ensures)

pub returns : goal.returns
returns c = let l = c.loop-i in fill_end _ figures_most (pos 0) l.i _ _ l.auto.i-end c.loop-i-test.false l.invariant
