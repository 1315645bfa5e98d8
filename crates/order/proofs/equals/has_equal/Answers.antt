-- `has_equal` meets its contract.
use native.Mathlib.Omega.{arith}
use lib.Ieee.{nan}
use Rattle.std.proofs.lemmas.Grind.{common_steps}
use Rattle.order.specs.Order.{equal}
use Rattle.order.proofs.Slices.{count-next}
use Rattle.order.proofs.equals.has_equal.Goals as goal

pub loop-x-preserved : goal.loop-x-preserved
loop-x-preserved c = let step = count-next (λ x. equal c.args.v x) c.args.xs.now c.loop-x.x-index nan c.loop-x-test.true in grind (arith, common_steps)
