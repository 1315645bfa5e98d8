-- `put_ranks`. The invariant: the rows from place i of the order on have their ranks.
use native.Mathlib.Omega.{arith}
use Rattle.ranking.proofs.Walking.{walk_start, row-there, entry-there, walk-rank, walk-down, walk_end}
use Rattle.ranking.proofs.column.put_ranks.Goals as goal

pub loop-i-init : goal.loop-i-init
loop-i-init c = record { ordered = c.requires; walk = walk_start _ _ _ _ _ c.requires 0 }

pub bounds-places-h : goal.bounds-places-h
bounds-places-h c = rw c.from-h.ensures (row-there c.loop-i.invariant (omega (arith, c.loop-i-test.true)) c.loop-i.auto.i)

pub whole-requires : goal.whole-requires
whole-requires c =
    let o = c.loop-i.invariant.ordered in
    omega (arith, o.most, walk-rank _ _ _ _ _ o c.loop-i.invariant.walk (omega (arith, c.loop-i-test.true)) c.loop-i.auto.i _ (rw c.from-h.ensures at c.rank_of-rank.ensures))

pub bounds-table-h : goal.bounds-table-h
bounds-table-h c = rw c.from-h.ensures (entry-there c.loop-i.invariant (omega (arith, c.loop-i-test.true)) c.loop-i.auto.i)

pub loop-i-preserved : goal.loop-i-preserved
loop-i-preserved c =
    let o = c.loop-i.invariant.ordered in
    let r = rw c.from-h.ensures at c.rank_of-rank.ensures in
    rw c.from-h.ensures (record { ordered = o; walk = walk-down _ _ _ _ _ o c.loop-i.invariant.walk (omega (arith, c.loop-i-test.true)) c.loop-i.auto.i _ r _ c.whole.ensures })

pub returns : goal.returns
returns c = walk_end _ _ _ _ _ c.loop-i.invariant.ordered c.loop-i.invariant.walk c.loop-i-test.false
