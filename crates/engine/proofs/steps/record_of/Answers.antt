-- `record_of` meets its contract: the row that set the critical value is there, and so is its column.
use Rattle.engine.proofs.OneStep.{row-there, column_fits, record_is}
use native.Mathlib.Omega.{arith}
use Rattle.engine.proofs.steps.record_of.Goals as goal

pub row-row-requires : goal.row-row-requires
row-row-requires c = let q = c.requires in rw c.table_of.ensures.1 (row-there _ _ q.0 _ q.1)

pub overflow_add-result : goal.overflow_add-result
overflow_add-result c = let g = c.requires.0 in omega (arith, g.steps-most)

pub overflow_add-result-2 : goal.overflow_add-result-2
overflow_add-result-2 c =
    let e = c.table_of.ensures in
    let q = c.requires in
    let f = column_fits _ _ q.0 _ q.1 _ (rw (e.0, e.1, e.2) at c.row-row.ensures) _ c.lowest_equal-column.ensures in
    omega (arith, f)

pub returns : goal.returns
returns c =
    let e = c.table_of.ensures in
    let q = c.requires in
    record_is _ _ q.0 _ q.1 _ (rw (e.0, e.1, e.2) at c.row-row.ensures) _ c.lowest_equal-column.ensures
