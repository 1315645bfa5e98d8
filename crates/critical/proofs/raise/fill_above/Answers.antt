-- `fill_above` meets its contract. The invariant is `Raised` (proofs/Raising.antt).
use Rattle.order.proofs.Lists.{rows_of-length}
use Rattle.critical.proofs.TableRows.{row-ready, row-value}
use Rattle.critical.proofs.Raising.{raised-start, raised-in, raised-past, raised-done, place-fits, row_fits, row-test}
use mathlib.Core.Bool.{true, false}
use native.Mathlib.Omega.{arith}
use Rattle.critical.proofs.raise.fill_above.Goals as goal
use Rattle.critical.proofs.raise.fill_above.Goals.{else-holds, then-holds}

pub loop-i-init : goal.loop-i-init
loop-i-init c = raised-start _ _ _ _ _ _

pub holds-requires : goal.holds-requires
holds-requires c = let t = c.args.table.checked in (t.k-some, t.k-most)

pub offset_bounds-kept-i : goal.offset_bounds-kept-i
offset_bounds-kept-i c = let t = c.args.table.checked in let f = place-fits t c.requires.4 _ c.loop-i-test.true in omega (arith, f.1, t.rows-most)

pub bounds-kept-i : goal.bounds-kept-i
bounds-kept-i c = (place-fits c.args.table.checked c.requires.4 _ c.loop-i-test.true).0

pub row-requires : goal.row-requires
row-requires c = row_fits c.args.table.checked c.requires.4 _ c.loop-i-test.true

pub kmax-requires : goal.kmax-requires
kmax-requires c =
    let t = c.args.table.checked in
    let p = c.requires in
    row-ready _ _ _ _ _ _ t p.3 _ (row_fits t p.4 _ c.loop-i-test.true) _ c.row.ensures p.1

pub offset_bounds-work-n : goal.offset_bounds-work-n
offset_bounds-work-n c = let t = c.args.table.checked in let l = c.loop-i.invariant in omega (arith, (place-fits t c.requires.4 _ c.loop-i-test.true).1, l.few, l.as_long, c.requires.0, t.rows-most)

pub bounds-work-n : goal.bounds-work-n
bounds-work-n c = let t = c.args.table.checked in let l = c.loop-i.invariant in omega (arith, (place-fits t c.requires.4 _ c.loop-i-test.true).1, l.few, l.as_long, c.requires.0, t.rows-most)

pub overflow_add-n : goal.overflow_add-n
overflow_add-n c = let t = c.args.table.checked in let l = c.loop-i.invariant in omega (arith, (place-fits t c.requires.4 _ c.loop-i-test.true).1, l.few, l.as_long, c.requires.0, t.rows-most)

pub loop-i-preserved : goal.loop-i-preserved
loop-i-preserved c =
    let a = c.args in
    let r = a.table.checked in
    let p = c.requires in
    let l = c.loop-i.invariant in
    let t = c.loop-i-test.true in
    let f = place-fits r p.4 _ t in
    let test = row-test r p.4 _ t _ p.2 _ in
    elim c.if-holds.branch [
      | then-holds w ↦ raised-in l f.0 _ _ _ (omega (arith, f.1, l.few, l.as_long, p.0)) (omega (arith, f.1, rows_of-length a.table.rows a.table.columns a.table.values.now)) (test true c.holds.ensures w.if-holds.true) (row-value _ _ _ _ _ _ r p.3 _ (row_fits r p.4 _ t) _ w.row.ensures w.kmax.ensures) w.work-is w.n-is
      | else-holds w ↦ raised-past l f.0 _ _ (test false c.holds.ensures w.if-holds.false) w.work-is w.n-is
    ]

pub returns : goal.returns
returns c = raised-done _ c.args.table.checked c.requires.4 c.loop-i.invariant c.loop-i-test.false (omega arith)
