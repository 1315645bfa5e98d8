-- `fill_sample` meets its contract. The invariant is `Sampled` (proofs/Sampling.antt).
use Rattle.critical.proofs.TableRows.{row-ready}
use Rattle.critical.proofs.Sampling.{sampled-start, sampled-turn, value-finite}
use native.Mathlib.Omega.{arith}
use Rattle.critical.proofs.sample.fill_sample.Goals as goal

pub loop-g-init : goal.loop-g-init
loop-g-init c = sampled-start _ _

pub kmax-requires : goal.kmax-requires
kmax-requires c = let p = c.requires in row-ready _ _ _ _ _ _ c.args.table.checked p.2 _ c.loop-g-test.true _ c.row.ensures p.1

pub offset_bounds-work-n : goal.offset_bounds-work-n
offset_bounds-work-n c = let l = c.loop-g.invariant in omega (arith, c.loop-g-test.true, c.args.table.checked.rows-most, l.few)

pub bounds-work-n : goal.bounds-work-n
bounds-work-n c = let l = c.loop-g.invariant in omega (arith, c.loop-g-test.true, c.requires.0, l.few, l.as_long)

pub overflow_add-n : goal.overflow_add-n
overflow_add-n c = let l = c.loop-g.invariant in omega (arith, c.loop-g-test.true, c.args.table.checked.rows-most, l.few)

pub loop-g-preserved : goal.loop-g-preserved
loop-g-preserved c =
    let p = c.requires in
    let q = row-ready _ _ _ _ _ _ c.args.table.checked p.2 _ c.loop-g-test.true _ c.row.ensures p.1 in
    sampled-turn _ c.loop-g.invariant c.loop-g-test.true p.0 (value-finite _ _ _ q.0 q.1 c.kmax.ensures)

pub returns : goal.returns
returns c = let w = c.loop-g.invariant in (w.less, w.finitely, w.back)

pub returns-2 : goal.returns-2
returns-2 c =
    let p = c.requires in
    let q = row-ready _ _ _ _ _ _ c.args.table.checked p.2 _ c.loop-g-test.true _ c.row.ensures p.1 in
    let w = sampled-turn _ c.loop-g.invariant c.loop-g-test.true p.0 (value-finite _ _ _ q.0 q.1 c.kmax.ensures) in
    (w.less, w.finitely, w.back)
