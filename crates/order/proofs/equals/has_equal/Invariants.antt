-- The invariant: as many are counted as there are among those that were looked at.
use mathlib.Core.Path.{◌≡◌}
use lib.ListN.{take}
use Rattle.order.specs.Order.{equal}
use Rattle.order.specs.Counting.{count}
use Rattle.order.proofs.equals.has_equal.Given as goal

abbrev pub invariant-loop-x : goal.invariant-loop-x
invariant-loop-x l = l.n ≡ count (λ x. equal l.v x) (take l.x-index l.xs)
