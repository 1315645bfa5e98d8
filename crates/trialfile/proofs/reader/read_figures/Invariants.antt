-- `trialfile::reader::read_figures` meets its contract. The loop's invariant: the array holds the first i figures, and zero beyond.
use mathlib.Core.Path.{◌≡◌}
use lib.IntN.{pos}
use Rattle.limits.specs.Limits.{figures_most}
use Rattle.words.specs.Words.{words_of}
use Rattle.trialfile.specs.Files.{figure_in}
use Rattle.trialfile.proofs.Arrays.{filling}
use Rattle.trialfile.proofs.reader.read_figures.Given as goal

abbrev pub invariant-loop-i : goal.invariant-loop-i
invariant-loop-i l = l.figures ≡ filling (figure_in (words_of l.file) l.l) figures_most (pos 0) l.i
