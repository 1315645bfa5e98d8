-- `bar_of` meets its contract: step 1 looks at the live columns, a later one at those left with k - 1 rejected ones put back.
use Rattle.engine.proofs.OneStep.{rejected-under, bar-start, bar-next, walk_start, walk-held, put-held}
use Rattle.engine.proofs.steps.bar_of.Goals as goal

pub critical_value-requires : goal.critical_value-requires
critical_value-requires c =
    let e = c.table_of-table.ensures in
    let q = c.requires in
    rw (e.1, e.2, e.3) (q.1, q.0.rare, q.0.live-fits, q.0.first c.if-s-eq0.true, q.0.ready.rows-most, q.0.ready.rows-most)

pub returns-then-s-eq0 : goal.returns-then-s-eq0
returns-then-s-eq0 c =
    let e = c.table_of-table.ensures in
    let v = rw (e.0, e.1, e.2, e.3) at c.critical_value.ensures in
    (bar-start _ _ c.requires.0 _ c.if-s-eq0.true v.0, v.1)

pub overflow_sub-s : goal.overflow_sub-s
overflow_sub-s c = rejected-under _ _ c.requires.0

pub put_back-requires : goal.put_back-requires
put_back-requires c =
    let e = c.table_of-table.ensures in
    let q = c.requires in
    rw (e.1, e.2, e.3) (q.1, q.0.rare, walk_start _ _ q.0, walk-held _ _ q.0, put-held _ _ q.0 c.if-s-eq0.false, q.0.ready.rows-most, q.0.ready.rows-most)

pub returns : goal.returns
returns c =
    let e = c.table_of-table.ensures in
    let v = rw (e.0, e.1, e.2, e.3) at c.put_back.ensures in
    (bar-next _ _ c.requires.0 _ c.if-s-eq0.false v.0, v.1)
