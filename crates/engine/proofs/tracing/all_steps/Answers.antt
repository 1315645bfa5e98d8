-- `all_steps` meets its contract. The invariant is `Followed`: the trace has the first i steps, and the others are those from here on.
use Rattle.engine.specs.Internal.{trace_of}
use Rattle.engine.proofs.AllSteps.{follow-start, follow-turn, follow-end, follow-out, kept-room, kept-beyond}
use lib.Ieee.{of_bits}
use native.Mathlib.Omega.{arith}
use mathlib.Core.Path.{refl}
use Rattle.engine.proofs.tracing.all_steps.Goals as goal

pub loop-i-init : goal.loop-i-init
unfolding of_bits trace_of
loop-i-init c = let q = c.requires in (follow-start _ _ q.0 q.2, q.1, refl, refl)

pub returns-then-state : goal.returns-then-state
returns-then-state c = let l = c.loop-i.invariant in (follow-end _ _ _ _ _ l.0 c.if-state.true, l.3)

pub step-s-requires : goal.step-s-requires
step-s-requires c = let l = c.loop-i.invariant in (l.0.going c.if-state.false, kept-room l.0 l.1)

pub loop-i-preserved : goal.loop-i-preserved
loop-i-preserved c =
    let l = c.loop-i.invariant in (
      follow-turn _ _ _ _ _ l.0 c.loop-i-test.true c.if-state.false _ _ _ c.step-s.ensures.0 c.noted-t.ensures refl,
      omega (arith, c.step-s.auto.work, l.1),
      omega (arith, c.step-s.auto.work, l.2),
      kept-beyond _ _ _ l.0 c.step-s.ensures.1 l.3,
    )

pub returns : goal.returns
returns c = let l = c.loop-i.invariant in (follow-out _ _ _ _ _ l.0 c.loop-i-test.false, l.3)
