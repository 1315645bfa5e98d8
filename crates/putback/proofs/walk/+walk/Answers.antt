-- `walk` meets its contract. What is left of the rejected columns falls with each call, as a number; the sets are those of proofs/Branches.antt, and what a look
-- at the marks tells stands in proofs/Pruning.antt.
use native.Mathlib.Omega.{arith}
use mathlib.Core.Path.{refl, sym, ◌∙◌}
use lib.Seq.{length-take-le}
use Rattle.putback.proofs.Walking.{leaf-value, none-value, past_value, in-value, past-at, in-at, odd-one}
use Rattle.putback.proofs.Branches.{next_fits, chosen-fits, unite-fits}
use Rattle.order.proofs.Booleans.{true-T}
use Rattle.putback.proofs.Pruning.{marks-few, pruned}
use Rattle.putback.proofs.walk.+walk.Goals as goal

pub leaf-requires : goal.leaf-requires
leaf-requires t c = let q = c.requires in (q.0, q.1.walk.inside, omega (arith, q.1.many, c.if-b-eq0.true))

pub returns-then-b-eq0 : goal.returns-then-b-eq0
returns-then-b-eq0 t c = let q = c.requires in (leaf-value _ _ _ _ q.1 _ _ c.if-b-eq0.true c.leaf.ensures.0, c.leaf.ensures.1, c.leaf.ensures.2)

pub returns-then-b-eq0-2 : goal.returns-then-b-eq0-2
returns-then-b-eq0-2 t c = let q = c.requires in (none-value _ _ _ _ q.1 _ c.if-b-eq0.false c.if-b-eq0-2.true, refl, q.0)

pub without_next-past-requires : goal.without_next-past-requires
without_next-past-requires t c = let q = c.requires in omega (arith, next_fits q.1 c.if-b-eq0-2.false, q.0.ready.cols-most)

pub walk-requires : goal.walk-requires
walk-requires t c = let s = c.requires in let n = past-at s.1 c.if-b-eq0-2.false c.decreases _ c.without_next-past.ensures in (n.0, (s.0, n.1))

pub returns-then-b-eq0-3 : goal.returns-then-b-eq0-3
returns-then-b-eq0-3 t c = let w = c.walk.ensures in let q = c.requires in (past_value _ _ _ _ q.1 _ c.if-b-eq0.false c.if-b-eq0-2.false _ c.without_next-past.ensures _ c.if-b-eq0-3.true w.0, w.1, w.2)

pub slice_bounds-left_out-end : goal.slice_bounds-left_out-end
slice_bounds-left_out-end t c = let g = c.requires.0 in omega (arith, g.few, g.marks-room)

pub slice_bounds-left_out-end-2 : goal.slice_bounds-left_out-end-2
slice_bounds-left_out-end-2 t c = sym (length-take-le c.args.held.n c.args.marks.now (omega (arith, c.requires.0.few, c.requires.0.marks-room)))

pub left_out-requires : goal.left_out-requires
left_out-requires t c = let q = c.requires in (q.0.ready.k-most, q.1.fewer, marks-few q.0, omega (arith, next_fits q.1 c.if-b-eq0-2.false, q.0.ready.cols-most), unite-fits q.1 q.0.ready.cols-most)

pub returns-then-left_out : goal.returns-then-left_out
returns-then-left_out t c = let q = c.requires in (pruned q.0 _ q.1 (c.left_out.ensures (true-T _ c.if-left_out.true)), refl, q.0)

pub with_next-chosen-requires : goal.with_next-chosen-requires
with_next-chosen-requires t c = let q = c.requires in let i = c.if-b-eq0-2.false in (omega (arith, next_fits q.1 i, q.0.ready.cols-most), chosen-fits q.1 i (odd-one _ c.if-b-eq0-3.false) q.0.ready.cols-most, omega (arith, c.if-b-eq0.false))

pub walk-h-requires : goal.walk-h-requires
walk-h-requires t c = let s = c.requires in let n = in-at s.1 c.if-b-eq0-2.false c.decreases c.if-b-eq0.false (odd-one _ c.if-b-eq0-3.false) _ c.with_next-chosen.ensures in (n.0, (s.0, n.1))

pub walk-requires-2 : goal.walk-requires-2
walk-requires-2 t c = let s = c.requires in let n = past-at s.1 c.if-b-eq0-2.false c.decreases _ c.without_next-past.ensures in (n.0, (c.walk-h.ensures.2, n.1))

pub returns : goal.returns
returns t c = let v = c.walk-2.ensures in let w = c.walk-h.ensures in let q = c.requires in (in-value _ _ _ _ q.1 _ c.if-b-eq0.false c.if-b-eq0-2.false _ c.without_next-past.ensures _ _ _ c.with_next-chosen.ensures (odd-one _ c.if-b-eq0-3.false) w.0 v.0, v.1 ∙ w.1, v.2)
