-- `verdict` meets its contract. The invariant: the verdict is what the steps from i on give.
use Rattle.engine.proofs.Traces.{look-start, look_hit, look-on, look-end}
use lib.Ieee.{of_bits}
use native.Mathlib.Omega.{arith}
use mathlib.Core.Path.{refl}
use Rattle.engine.proofs.tracing.verdict.Goals as goal

pub loop-i-init : goal.loop-i-init
unfolding of_bits
loop-i-init c = let q = c.requires in (omega arith, refl, q.0, q.1, look-start _ _)

pub returns-then-set-j-eq1 : goal.returns-then-set-j-eq1
returns-then-set-j-eq1 c = let l = c.loop-i.invariant in look_hit _ _ _ _ l.2 (omega (arith, c.loop-i-test.true, l.1)) _ refl c.if-set-j-eq1.true l.4

pub loop-i-preserved : goal.loop-i-preserved
loop-i-preserved c = let l = c.loop-i.invariant in (omega (arith, c.loop-i-test.true), l.1, l.2, l.3, look-on _ _ _ _ l.2 (omega (arith, c.loop-i-test.true, l.1)) _ refl c.if-set-j-eq1.false l.4)

pub returns : goal.returns
returns c = let l = c.loop-i.invariant in look-end _ _ _ _ _ l.2 l.1 c.loop-i-test.false l.4
