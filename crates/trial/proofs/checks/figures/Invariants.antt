-- `trial::checks::figures` meets its contract. The loop's invariant: whether one of the figures so far is out of range.
use mathlib.Core.Path.{◌≡◌}
use lib.ListN.{take}
use Rattle.std.specs.List.{list_any}
use Rattle.trial.specs.Refusals.{bad_difference}
use Rattle.trial.proofs.checks.figures.Given as goal

abbrev pub invariant-loop-x : goal.invariant-loop-x
invariant-loop-x l = l.bad ≡ list_any bad_difference (take l.x-index l.xs)
