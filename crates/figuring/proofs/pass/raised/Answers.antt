-- `raised` meets its contract; each case is a law of proofs/NeededMarks.antt.
use Rattle.figuring.proofs.NeededMarks.{raising-counts, raised-one, raised-bounded, raised-counted}
use Rattle.masks.proofs.Marking.{all-marked}
use lib.Seq.{length-take-le}
use native.Mathlib.Omega.{arith}
use mathlib.Core.Path.{sym}
use Rattle.figuring.proofs.pass.raised.Goals as goal

pub returns-then-table-eq1 : goal.returns-then-table-eq1
returns-then-table-eq1 c = raised-one c.requires.0 _ _ c.if-table-eq1.true c.max.ensures

pub returns-then-bound-figure : goal.returns-then-bound-figure
returns-then-bound-figure c = raised-bounded c.requires.0 _ (omega (arith, c.size_of.ensures, c.if-table-size_of.true)) c.if-bound-figure.true

pub slice_bounds-needed-end-2 : goal.slice_bounds-needed-end-2
slice_bounds-needed-end-2 c =
    let p = c.requires in
    sym (length-take-le c.mark_all-n.result c.mark_all-n.new.marks (omega (arith, c.mark_all-n.auto.marks, c.mark_all-n.ensures.0, p.1)))

pub needed-requires : goal.needed-requires
needed-requires c =
    let p = c.requires in
    raising-counts p.0 c.if-table-eq1.false _ (omega (arith, slice_bounds-needed-end-2 c, c.mark_all-n.ensures.0, p.1, p.2))

pub returns : goal.returns
returns c = raised-counted c.requires.0 _ _ _ c.needed.ensures (all-marked _ _ _ _ _ _ _ c.mark_all-n.ensures.1 c.mark_all-n.ensures.2)
