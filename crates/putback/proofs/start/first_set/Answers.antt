-- `first_set` meets its contract: it ends, since what is left of the rejected columns falls.
use Rattle.putback.proofs.Branches.{next_fits, chosen-fits}
use Rattle.putback.proofs.Walking.{past-at, in-at}
use native.Mathlib.Omega.{arith}
use mathlib.Core.Path.{refl}
use Rattle.putback.proofs.start.first_set.Goals as goal

pub loop-at-init : goal.loop-at-init
loop-at-init c = c.requires

pub returns-then-at-eq0 : goal.returns-then-at-eq0
returns-then-at-eq0 c = c.loop-at.invariant.0.walk.inside

pub with_next-at-requires : goal.with_next-at-requires
with_next-at-requires c = let l = c.loop-at.invariant in let i = c.loop-at-test.true in (omega (arith, next_fits l.0 i, l.1), chosen-fits l.0 i c.if-at-eq1.true l.1, omega (arith, c.if-at-eq0.false))

pub loop-at-smaller-then-at-eq1 : goal.loop-at-smaller-then-at-eq1
loop-at-smaller-then-at-eq1 c = let l = c.loop-at.invariant in (in-at l.0 c.loop-at-test.true refl c.if-at-eq0.false c.if-at-eq1.true _ c.with_next-at.ensures).0

pub loop-at-preserved-then-at-eq1 : goal.loop-at-preserved-then-at-eq1
loop-at-preserved-then-at-eq1 c = let l = c.loop-at.invariant in ((in-at l.0 c.loop-at-test.true refl c.if-at-eq0.false c.if-at-eq1.true _ c.with_next-at.ensures).1, l.1)

pub without_next-at-requires : goal.without_next-at-requires
without_next-at-requires c = let l = c.loop-at.invariant in omega (arith, next_fits l.0 c.loop-at-test.true, l.1)

pub loop-at-smaller : goal.loop-at-smaller
loop-at-smaller c = let l = c.loop-at.invariant in (past-at l.0 c.loop-at-test.true refl _ c.without_next-at.ensures).0

pub loop-at-preserved : goal.loop-at-preserved
loop-at-preserved c = let l = c.loop-at.invariant in ((past-at l.0 c.loop-at-test.true refl _ c.without_next-at.ensures).1, l.1)

pub returns : goal.returns
returns c = c.loop-at.invariant.0.walk.inside
