-- `leaf` meets its contract.
use Rattle.putback.proofs.Pruning.{kept-inside, marks-few, leaf-held, still-going, leaf-risen, risen}
use lib.Seq.{length-take-le}
use mathlib.Core.Path.{refl, sym}
use native.Mathlib.Omega.{arith}
use Rattle.putback.proofs.walk.leaf.Goals as goal

pub slice_bounds-count_holding-end-2 : goal.slice_bounds-count_holding-end-2
slice_bounds-count_holding-end-2 c = sym (length-take-le c.args.held.n c.args.marks.now (omega (arith, c.requires.0.few, c.requires.0.marks-room)))

pub count_holding-requires : goal.count_holding-requires
count_holding-requires c = let g = c.requires.0 in (g.ready.k-some, g.ready.k-most, marks-few g)

pub returns-then-count_holding-e : goal.returns-then-count_holding-e
returns-then-count_holding-e c = let q = c.requires in (leaf-held q.0 _ q.1 q.2 _ c.count_holding.ensures c.if-count_holding-e.true, refl, still-going q.0 _ q.1 q.2 _ c.count_holding.ensures)

pub slice_bounds-raised-end-2 : goal.slice_bounds-raised-end-2
slice_bounds-raised-end-2 c = sym (length-take-le c.args.held.n c.args.kept.now (omega (arith, c.requires.0.few, c.requires.0.kept-room)))

pub slice_bounds-raised-end-4 : goal.slice_bounds-raised-end-4
slice_bounds-raised-end-4 c = sym (length-take-le c.args.held.n c.args.marks.now (omega (arith, c.requires.0.few, c.requires.0.marks-room)))

pub raised-c-requires : goal.raised-c-requires
raised-c-requires c = let q = c.requires in (q.0.work-room, q.2, q.1, q.0.marked, omega (arith, c.count_holding.ensures, c.if-count_holding-e.false))

pub mark-m-requires : goal.mark-m-requires
mark-m-requires c = let g = c.requires.0 in (omega (arith, g.few, g.kept-room), omega (arith, g.few, g.marks-room), kept-inside g)

pub returns : goal.returns
returns c =
    let q = c.requires in
    let r = c.raised-c in
    let m = c.mark-m in
    let n = c.count_holding.ensures in
    let o = c.if-count_holding-e.false in
    (leaf-risen q.0 _ q.1 q.2 _ n o _ r.ensures.0, r.ensures.1, risen q.0 _ q.1 q.2 _ n o _ _ _ m.new.kept m.new.marks r.ensures.0 r.auto.work m.auto.kept m.auto.marks m.ensures.0 m.ensures.1 m.ensures.2)
