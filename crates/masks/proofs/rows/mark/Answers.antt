-- `mark` meets its contract. The invariant is `Remarked` (proofs/Marking.antt).
use Rattle.masks.specs.Marks.{passing, mark_of}
use Rattle.masks.proofs.Parts.{row-narrow}
use Rattle.masks.proofs.Marking.{remarked-start, kept-fits, row_inside, remarked-in, remarked-past, remarked-end}
use native.Mathlib.Omega.{arith}
use mathlib.Core.Path.{sym, ap, ◌∙◌}
use Rattle.masks.proofs.rows.mark.Goals as goal
use Rattle.masks.proofs.rows.mark.Goals.{else-has_at_least, then-has_at_least}

pub loop-i-init : goal.loop-i-init
loop-i-init c = let p = c.requires in remarked-start _ _ _ _ _ _ _ _ c.args.table.checked p.0 p.1 p.2

pub offset_bounds-kept-i : goal.offset_bounds-kept-i
offset_bounds-kept-i c = let l = c.loop-i.invariant in omega (arith, l.ready.rows-most, kept-fits l c.loop-i-test.true)

pub bounds-kept-i : goal.bounds-kept-i
bounds-kept-i c = kept-fits c.loop-i.invariant c.loop-i-test.true

pub overflow_cast-g : goal.overflow_cast-g
overflow_cast-g c = let l = c.loop-i.invariant in omega (arith, row_inside l c.loop-i-test.true, l.ready.rows-most)

pub row-requires : goal.row-requires
row-requires c = row_inside c.loop-i.invariant c.loop-i-test.true

pub row_mask-x-requires : goal.row_mask-x-requires
row_mask-x-requires c = let l = c.loop-i.invariant in (row-narrow _ _ _ _ _ l.ready (row_inside l c.loop-i-test.true) _ c.row.ensures, c.bits-bits.ensures)

pub offset_bounds-kept-m : goal.offset_bounds-kept-m
offset_bounds-kept-m c = let l = c.loop-i.invariant in omega (arith, l.few)

pub bounds-kept-m : goal.bounds-kept-m
bounds-kept-m c = let l = c.loop-i.invariant in omega (arith, l.few, kept-fits l c.loop-i-test.true)

pub offset_bounds-marks-m : goal.offset_bounds-marks-m
offset_bounds-marks-m c = let l = c.loop-i.invariant in omega (arith, l.few)

pub bounds-marks-m : goal.bounds-marks-m
bounds-marks-m c = let l = c.loop-i.invariant in omega (arith, l.few, c.loop-i-test.true, l.room.1, l.as_long.1)

pub has_at_least-requires : goal.has_at_least-requires
has_at_least-requires c = let l = c.loop-i.invariant in (l.ready.k-some, l.ready.k-most)

pub overflow_add-m : goal.overflow_add-m
overflow_add-m c = let l = c.loop-i.invariant in omega (arith, l.few)

pub loop-i-preserved : goal.loop-i-preserved
loop-i-preserved c =
    let l = c.loop-i.invariant in
    elim c.if-has_at_least.branch [ then-has_at_least u ↦ remarked-in l c.loop-i-test.true _ (c.row_mask-x.ensures ∙ ap (mark_of (passing c.args.bound)) c.row.ensures) _ (sym c.has_at_least.ensures ∙ u.if-has_at_least.true) u.m-is | else-has_at_least u ↦ remarked-past l c.loop-i-test.true _ (c.row_mask-x.ensures ∙ ap (mark_of (passing c.args.bound)) c.row.ensures) _ (sym c.has_at_least.ensures ∙ u.if-has_at_least.false) u.m-is ]

pub returns : goal.returns
returns c = remarked-end c.loop-i.invariant c.loop-i-test.false
