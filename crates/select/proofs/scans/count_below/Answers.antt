-- `count_below` meets its contract.
use native.Mathlib.Omega.{arith}
use lib.Ieee.{nan}
use Rattle.std.proofs.lemmas.Grind.{common_steps}
use Rattle.order.specs.Order.{smaller}
use Rattle.order.proofs.Slices.{count-next}
use Rattle.select.proofs.scans.count_below.Goals as goal

pub loop-x-preserved : goal.loop-x-preserved
loop-x-preserved c = let step = count-next (λ x. smaller x c.args.t) c.args.xs.now c.loop-x.x-index nan c.loop-x-test.true in grind (arith, common_steps)
