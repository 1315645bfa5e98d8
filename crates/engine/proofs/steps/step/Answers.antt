-- `step` meets its contract.
use Rattle.masks.proofs.Parts.{row-narrow, mask_fits}
use Rattle.engine.proofs.OneStep.{rejected-under, new-fits, step_is}
use native.Mathlib.Omega.{arith}
use Rattle.engine.proofs.steps.step.Goals as goal

pub row-row-requires : goal.row-row-requires
row-row-requires c = rw c.table_of.ensures.1 c.requires.0.seen

pub overflow_sub-remaining : goal.overflow_sub-remaining
overflow_sub-remaining c = rejected-under _ _ c.requires.0

pub above-new-requires : goal.above-new-requires
above-new-requires c =
    let e = c.table_of.ensures in
    let g = c.requires.0 in
    row-narrow _ _ _ _ _ g.ready g.seen _ (rw (e.0, e.1, e.2) at c.row-row.ensures)

pub overflow_add-rejected : goal.overflow_add-rejected
overflow_add-rejected c =
    let e = c.table_of.ensures in
    let g = c.requires.0 in
    record { fits = mask_fits g.ready.cols-most (new-fits _ _ g _ c.bar_of-bar.ensures.0 _ (rw (e.0, e.1, e.2) at c.row-row.ensures) _ c.above-new.ensures) }

pub record_of-logged-requires : goal.record_of-logged-requires
record_of-logged-requires c = (c.requires.0, c.bar_of-bar.ensures.0)

pub overflow_add-result : goal.overflow_add-result
overflow_add-result c = let g = c.requires.0 in omega (arith, g.steps-most)

pub returns : goal.returns
returns c =
    let e = c.table_of.ensures in
    let g = c.requires.0 in
    let b = c.bar_of-bar.ensures in
    (step_is _ _ g _ b.0 _ (rw (e.0, e.1, e.2) at c.row-row.ensures) _ c.above-new.ensures _ _ c.ends-ended.ensures c.record_of-logged.ensures, b.1)
