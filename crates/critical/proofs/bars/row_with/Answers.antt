-- `row_with` meets its contract. The invariant: the row that is looked for is the one from `g` on.
use Rattle.critical.proofs.TableRows.{row-ready}
use Rattle.critical.proofs.LowestRow.{rows_start, rows-hit, rows_on, rows_out}
use native.Mathlib.Omega.{arith}
use Rattle.critical.proofs.bars.row_with.Goals as goal

pub loop-g-init : goal.loop-g-init
loop-g-init c = rows_start _ _ _ _ _ _

pub has_k_max-requires : goal.has_k_max-requires
has_k_max-requires c =
    let p = c.requires in
    let q = row-ready _ _ _ _ _ _ c.args.table.checked p.2 _ c.loop-g-test.true _ c.row.ensures p.1 in
    (p.0, q.0, q.1, q.2, q.3, q.4)

pub returns-then-has_k_max : goal.returns-then-has_k_max
returns-then-has_k_max c = rows-hit _ _ _ _ _ _ _ c.args.table.checked c.requires.2 _ c.loop-g-test.true _ c.row.ensures c.has_k_max.ensures c.if-has_k_max.true c.loop-g.invariant

pub loop-g-preserved : goal.loop-g-preserved
loop-g-preserved c = rows_on _ _ _ _ _ _ _ c.args.table.checked c.requires.2 _ c.loop-g-test.true _ c.row.ensures c.has_k_max.ensures c.if-has_k_max.false c.loop-g.invariant

pub returns : goal.returns
returns c = rows_out _ _ _ _ _ _ _ c.loop-g-test.false (omega arith) c.loop-g.invariant
