-- `tally` meets its contract. The invariant is `Tallied` (proofs/Tally.antt).
use Rattle.critical.proofs.Tally.{tallied-start, count_fits, tallied-turn, tallied-end, tallied-rest}
use native.Mathlib.Omega.{arith}
use Rattle.critical.proofs.counts.tally.Goals as goal

pub loop-j-init : goal.loop-j-init
loop-j-init c = tallied-start c.requires

pub offset_bounds-observed-j : goal.offset_bounds-observed-j
offset_bounds-observed-j c = let l = c.loop-j.invariant in omega (arith, l.ready.even)

pub bounds-observed-j : goal.bounds-observed-j
bounds-observed-j c = let l = c.loop-j.invariant in omega (arith, c.loop-j-test.true, l.ready.even)

pub offset_bounds-counts-j : goal.offset_bounds-counts-j
offset_bounds-counts-j c = let l = c.loop-j.invariant in omega (arith, l.place)

pub bounds-counts-j : goal.bounds-counts-j
bounds-counts-j c = let l = c.loop-j.invariant in omega (arith, c.loop-j-test.true, l.ready.room, l.as_long)

pub overflow_add-counts : goal.overflow_add-counts
overflow_add-counts c = let f = count_fits c.loop-j.invariant c.loop-j-test.true _ c.one_where.ensures in omega (arith, f)

pub bounds-counts-j-in-loop-j : goal.bounds-counts-j-in-loop-j
bounds-counts-j-in-loop-j c = let l = c.loop-j.invariant in omega (arith, c.loop-j-test.true, l.ready.room, l.as_long)

pub loop-j-preserved : goal.loop-j-preserved
loop-j-preserved c = tallied-turn c.loop-j.invariant c.loop-j-test.true _ c.one_where.ensures

pub shape_of-counts : goal.shape_of-counts
shape_of-counts c = c.loop-j.invariant.as_long

pub returns : goal.returns
returns c = let l = c.loop-j.invariant in (tallied-end l c.loop-j-test.false, tallied-rest l c.loop-j-test.false)
