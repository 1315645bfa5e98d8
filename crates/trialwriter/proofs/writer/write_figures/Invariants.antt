-- `trialwriter::writer::write_figures` meets its contract. The loop's invariant: the words of the first i figures are stored.
use mathlib.Core.Path.{◌≡◌}
use lib.IntN.{pos}
use Rattle.trial.specs.Refusals.{nth}
use Rattle.words.specs.Words.{difference_word}
use Rattle.trialwriter.proofs.Stored.{stored}
use Rattle.trialwriter.proofs.writer.write_figures.Given as goal

abbrev pub invariant-loop-i : goal.invariant-loop-i
invariant-loop-i l = l.out ≡ stored (λ j. difference_word (nth l.figures (pos 0) j)) l.initial.out l.at l.i
