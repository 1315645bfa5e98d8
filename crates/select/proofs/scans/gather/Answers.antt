-- `gather` meets its contract.
use native.Mathlib.Omega.{arith}
use lib.Bits.{bit_or, bit_and}
use lib.Ieee.{nan}
use mathlib.Core.Path.{◌∙◌}
use Rattle.std.proofs.lemmas.Grind.{common_steps}
use Rattle.order.specs.Order.{smaller}
use Rattle.order.proofs.Slices.{count-next, count-whole}
use Rattle.select.proofs.Steps.{gathered-turn, gathered-end}
use Rattle.select.proofs.scans.gather.Goals as goal

pub loop-x-preserved : goal.loop-x-preserved
loop-x-preserved c =
    let l = c.loop-x.invariant in
    let step = count-next (λ x. smaller x c.args.t) c.args.xs.now c.loop-x.x-index nan c.loop-x-test.true in
    (grind (arith, common_steps), gathered-turn bit_or _ _ _ _ _ _ c.loop-x-test.true c.pattern-any.ensures l.1, gathered-turn bit_and _ _ _ _ _ _ c.loop-x-test.true c.pattern-every.ensures l.2)

pub returns : goal.returns
returns c =
    let l = c.loop-x.invariant in
    (l.0 ∙ count-whole _ _ _ c.loop-x-test.false, gathered-end bit_or _ _ _ _ _ _ c.loop-x-test.false l.1, gathered-end bit_and _ _ _ _ _ _ c.loop-x-test.false l.2)
