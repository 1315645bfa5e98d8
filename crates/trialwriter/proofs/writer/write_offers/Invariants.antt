-- `trialwriter::writer::write_offers` meets its contract. The loop's invariant: the words of the first i offers are stored.
use mathlib.Core.Path.{◌≡◌}
use Rattle.trial.specs.Refusals.{nth}
use Rattle.words.specs.Words.{offer_word}
use Rattle.trialwriter.proofs.Stored.{stored}
use Rattle.trialwriter.proofs.writer.write_offers.Given as goal

abbrev pub invariant-loop-i : goal.invariant-loop-i
invariant-loop-i l = l.out ≡ stored (λ j. offer_word (nth l.codes 0 j) (nth l.digits 0 j)) l.initial.out l.at l.i
