-- The invariant: as many are counted as there are among those that were looked at.
use Rattle.order.specs.Order.{smaller}
use Rattle.order.specs.Counting.{count}
use lib.ListN.{take}
use mathlib.Core.Path.{◌≡◌}
use Rattle.select.proofs.scans.count_below.Given as goal

abbrev pub invariant-loop-x : goal.invariant-loop-x
invariant-loop-x l = l.n ≡ count (λ x. smaller x l.t) (take l.x-index l.xs)
