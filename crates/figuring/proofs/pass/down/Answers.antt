-- `down` meets its contract. The invariant is `Midway` (proofs/Midway.antt).
use Rattle.masks.proofs.Parts.{row-length, row-finite, row-narrow, mask_fits}
use Rattle.figuring.proofs.Midway.{order-part, few-live, order-listed, order-fits, midway_start, midway-raising, midway-counted, midway-tied, midway_end, column_fits, column-32, mask-room}
use lib.ListN.{length, get_or}
use lib.Ieee.{Float, nan, of_bits}
use mathlib.Core.List.{List}
use mathlib.Core.Path.{sym, ap, ◌∙◌}
use native.Mathlib.Omega.{arith}
use borrow.Author.Rules.{rules}
use Rattle.figuring.proofs.pass.down.Goals as goal
use Rattle.figuring.proofs.pass.down.Goals.{else-v-last, then-v-last}

pub unrejected-figures-requires : goal.unrejected-figures-requires
unrejected-figures-requires c = c.requires.0.ready.cols-most

pub row-seen-requires : goal.row-seen-requires
row-seen-requires c = c.requires.0.seen

pub order-order-requires : goal.order-order-requires
order-order-requires c =
    let r = c.requires.0 in
    (row-finite _ _ _ _ _ r.ready r.seen _ c.row-seen.ensures, row-narrow _ _ _ _ _ r.ready r.seen _ c.row-seen.ensures, order-part r _ c.row-seen.ensures)

pub slice_bounds-order-end : goal.slice_bounds-order-end
slice_bounds-order-end c = let f = few-live c.requires.0 _ c.size_of-n.ensures in omega (arith, f)

pub slice_bounds-maxima-end : goal.slice_bounds-maxima-end
slice_bounds-maxima-end c =
    let p = c.requires in
    sym (order-listed p.0 p.1 _ _ c.size_of-n.ensures _ c.row-seen.ensures c.order-order.ensures)

pub maxima-counts-requires : goal.maxima-counts-requires
maxima-counts-requires c =
    let p = c.requires in
    let f = few-live p.0 _ c.size_of-n.ensures in
    (p.0.seen, omega (arith, slice_bounds-maxima-end c, f), order-fits p.0 p.1 _ _ c.size_of-n.ensures _ c.row-seen.ensures c.order-order.ensures)

pub loop-s-init : goal.loop-s-init
unfolding of_bits
loop-s-init c =
    let p = c.requires in
    (search rules, few-live p.0 _ c.size_of-n.ensures, midway_start p.0 p.1 _ _ c.size_of-n.ensures _ c.row-seen.ensures c.order-order.ensures _ c.unrejected-figures.ensures)

pub offset_bounds-order-s : goal.offset_bounds-order-s
offset_bounds-order-s c = omega (arith, c.loop-s.invariant.1)

pub bounds-order-s : goal.bounds-order-s
bounds-order-s c = omega (arith, c.loop-s.invariant.1)

pub offset_bounds-seen-i : goal.offset_bounds-seen-i
offset_bounds-seen-i c =
    let r = c.requires.0 in
    omega (arith, column_fits c.loop-s.invariant.2 c.loop-s-test.true, r.ready.cols-most)

pub bounds-seen-i : goal.bounds-seen-i
bounds-seen-i c =
    let r = c.requires.0 in
    omega (arith, column_fits c.loop-s.invariant.2 c.loop-s-test.true, row-length _ _ _ _ _ r.ready r.seen _ c.row-seen.ensures)

pub offset_bounds-counts-s : goal.offset_bounds-counts-s
offset_bounds-counts-s c = omega (arith, c.loop-s.invariant.1, c.loop-s-test.true)

pub bounds-counts-s : goal.bounds-counts-s
bounds-counts-s c = omega (arith, c.loop-s.invariant.1, c.loop-s-test.true)

pub raised-figure-requires : goal.raised-figure-requires
raised-figure-requires c =
    let l = c.loop-s.invariant in
    (midway-raising l.2 c.loop-s-test.true _ (ap (λ (row : List Float). get_or row (get_or c.order-order.result c.loop-s.s 0) nan) c.row-seen.ensures) c.maxima-counts.result c.maxima-counts.ensures, omega (arith, l.0, l.2.ready.ready.rows-most), omega (arith, l.0))

pub offset_bounds-figures-i : goal.offset_bounds-figures-i
offset_bounds-figures-i c = let f = column-32 c.loop-s.invariant.2 c.loop-s-test.true in omega (arith, f)

pub bounds-figures-i : goal.bounds-figures-i
bounds-figures-i c = let f = column-32 c.loop-s.invariant.2 c.loop-s-test.true in omega (arith, f)

pub bit-passed-requires : goal.bit-passed-requires
bit-passed-requires c = column-32 c.loop-s.invariant.2 c.loop-s-test.true

pub overflow_add-passed : goal.overflow_add-passed
overflow_add-passed c =
    let l = c.loop-s.invariant.2 in
    record { fits = mask_fits l.ready.ready.cols-most (mask-room l c.loop-s-test.true _ (ap (λ (row : List Float). get_or row (get_or c.order-order.result c.loop-s.s 0) nan) c.row-seen.ensures) _ c.bit-passed.ensures) }

-- by the branch: a count is made, or the value ties
pub loop-s-preserved : goal.loop-s-preserved
loop-s-preserved c =
    let l = c.loop-s.invariant in
    elim c.if-v-last.branch [ then-v-last w ↦ (ap length w.ms-is ∙ w.raised-figure.auto.marks ∙ l.0, l.1, midway-counted l.2 c.loop-s-test.true _ (ap (λ (row : List Float). get_or row (get_or c.order-order.result c.loop-s.s 0) nan) c.row-seen.ensures) _ c.bit-passed.ensures _ _ _ w.raised-figure.ensures w.figure-is w.last-is) | else-v-last w ↦ (ap length w.ms-is ∙ l.0, l.1, midway-tied l.2 c.loop-s-test.true _ (ap (λ (row : List Float). get_or row (get_or c.order-order.result c.loop-s.s 0) nan) c.row-seen.ensures) _ c.bit-passed.ensures _ _ w.if-v-last.false w.figure-is w.last-is) ]

pub returns : goal.returns
returns c = midway_end c.loop-s.invariant.2 c.loop-s-test.false
