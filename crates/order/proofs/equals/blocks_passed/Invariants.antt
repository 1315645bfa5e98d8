-- `blocks_passed` meets its contract. The invariant: none in the first b blocks equals it.
use mathlib.Core.Path.{◌≡◌}
use Prim.Native.Nat.{◌+◌, ◌*◌}
use lib.ListN.{drop}
use Rattle.order.specs.Order.{equal}
use Rattle.order.specs.Lists.{first_at}
use Rattle.order.proofs.equals.blocks_passed.Given as goal

abbrev pub invariant-loop-b : goal.invariant-loop-b
invariant-loop-b l = first_at (λ x. equal l.v x) l.xs ≡ 16 * l.b + first_at (λ x. equal l.v x) (drop (16 * l.b) l.xs)
