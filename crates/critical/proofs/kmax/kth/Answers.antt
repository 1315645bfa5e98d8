-- `kth` meets its contract. The invariant: what is held, once the values still to come are seen, is what all values leave.
use Rattle.order.specs.Order.{with_plus_zero}
use Rattle.critical.proofs.Members.{column_fits, seen_more, seen_all, listed-finite}
use Rattle.critical.proofs.RowMax.{nth-largest}
use lib.ListN.{get_or, length-map}
use lib.Ieee.{nan, of_bits}
use mathlib.Core.Path.{refl, ap, ◌∙◌}
use native.Mathlib.Omega.{arith}
use Prim.Native.Nat.{◌-◌}
use Rattle.critical.proofs.kmax.kth.Goals as goal

pub loop-j-init : goal.loop-j-init
unfolding of_bits
loop-j-init g c = (c.requires.1, refl)

pub offset_bounds-row-j : goal.offset_bounds-row-j
offset_bounds-row-j g c = let a = c.args in let f = column_fits a.row.now a.list.now c.loop-j.j-index c.loop-j-test.true c.loop-j.invariant.0 in omega (arith, f)

pub bounds-row-j : goal.bounds-row-j
bounds-row-j g c = let a = c.args in column_fits a.row.now a.list.now c.loop-j.j-index c.loop-j-test.true c.loop-j.invariant.0

pub loop-j-preserved : goal.loop-j-preserved
loop-j-preserved g c = let l = c.loop-j.invariant in (l.0, seen_more c.args.row.now c.args.list.now c.loop-j.j-index c.loop-j-test.true _ _ _ c.push.ensures l.1)

pub returns : goal.returns
returns g c =
    let a = c.args in
    let q = c.requires in
    c.plus_zero.ensures ∙ ap (λ ts. with_plus_zero (get_or ts (g.row.K - 1) nan)) (seen_all a.row.now a.list.now c.loop-j.j-index _ _ c.loop-j-test.false c.loop-j.invariant.1)
    ∙ nth-largest _ g.row.K (listed-finite a.row.now a.list.now q.0 q.1) q.2 (omega (arith, q.4, length-map a.list.now (λ j. get_or a.row.now j nan)))
