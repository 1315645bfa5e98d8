-- `push` meets its contract. The invariant: the places before the next have their values, and the others are still to be pushed.
use Rattle.critical.proofs.RowMax.{pushed_more, pushed_all}
use native.Mathlib.Omega.{arith}
use mathlib.Core.Path.{sym, ◌∙◌}
use Rattle.critical.proofs.kmax.push.Goals as goal

pub loop-value-preserved : goal.loop-value-preserved
loop-value-preserved c = rw (c.larger.ensures, c.lesser-rest.ensures) (pushed_more c.loop-value.largest c.loop-value.value-index c.loop-value.given_up (omega (arith, c.loop-value.auto.largest, c.loop-value-test.true))) ∙ c.loop-value.invariant

pub returns : goal.returns
returns c = sym (pushed_all c.loop-value.largest c.loop-value.value-index c.loop-value.given_up (omega (arith, c.loop-value.auto.largest, c.loop-value-test.false))) ∙ c.loop-value.invariant
