-- `trialfile::reader::read_labels` meets its contract.
use mathlib.Core.Path.{ap, ◌∙◌}
use native.Mathlib.Omega.{arith}
use Rattle.limits.specs.Limits.{offers_most}
use Rattle.words.specs.Words.{words_of, code_of, digits_of}
use Rattle.trialfile.specs.Files.{code_in, digits_in}
use Rattle.trialfile.proofs.Arrays.{fill_start, fill-turn, fill_end}
use Rattle.trialfile.proofs.reader.read_labels.Goals as goal

pub loop-i-init : goal.loop-i-init
loop-i-init c = (fill_start _ _ _, fill_start _ _ _)

pub loop-i-preserved : goal.loop-i-preserved
loop-i-preserved c =
    let l = c.loop-i in
    let a = c.args in
    let ws = words_of a.file.now in (
      fill-turn (code_in ws a.l) offers_most 0 l.i l.codes _ (omega (arith, c.requires.0, c.loop-i-test.true)) l.invariant.0 (c.code_of.ensures ∙ ap code_of c.word_at-w.ensures),
      fill-turn (digits_in ws a.l) offers_most 0 l.i l.digits _ (omega (arith, c.requires.0, c.loop-i-test.true)) l.invariant.1 (c.digits_of.ensures ∙ ap digits_of c.word_at-w.ensures),
    )

pub returns : goal.returns
returns c =
    let l = c.loop-i in
    (fill_end _ offers_most 0 l.i _ _ l.auto.i-end c.loop-i-test.false l.invariant.0, fill_end _ offers_most 0 l.i _ _ l.auto.i-end c.loop-i-test.false l.invariant.1)
