-- `trial::checks::offers` meets its contract. The loop's invariant: the answer of all offers is that of those from offer i on.
use mathlib.Core.Path.{◌≡◌}
use Rattle.refusals.specs.Answers.{places_from, outcome}
use Rattle.refusals.proofs.Places.{places_left}
use Rattle.trial.specs.Refusals.{offer_checks, nth}
use Rattle.trial.proofs.checks.offers.Given as goal

abbrev pub invariant-loop-i : goal.invariant-loop-i
invariant-loop-i l = outcome (places_from (offer_checks (nth l.labels.codes 0) (nth l.labels.digits 0)) 0 l.n) (tt {0}) ≡ outcome (places_left (offer_checks (nth l.labels.codes 0) (nth l.labels.digits 0)) l.n l.i) (tt {0})
