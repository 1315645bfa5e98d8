-- `trialtable::kinds::sum` meets its contract.
use mathlib.Core.Path.{refl}
use native.Mathlib.Omega.{arith}
use Rattle.trial.specs.Choices.{sum_of}
use Rattle.trialtable.proofs.Arithmetic.{sum-turn}
use Rattle.trialtable.proofs.kinds.sum.Goals as goal

pub loop-x-init : goal.loop-x-init
unfolding sum_of
loop-x-init c = (refl, omega arith)

pub loop-x-preserved : goal.loop-x-preserved
loop-x-preserved c =
    let l = c.loop-x in
    sum-turn c.args.figures.now l.x-index _ c.from-sum.result c.requires c.loop-x-test.true (record { sfits = omega arith }) c.from-sum.ensures l.invariant.0 l.invariant.1
