-- `fill` meets its contract. The invariant: the first g places hold the largest values of the first g rows.
use Rattle.refusals.proofs.Buffers.{filled-start}
use Rattle.critical.proofs.TableRows.{rows_end, row-ready, row-turn}
use Rattle.masks.proofs.Parts.{any-k}
use native.Mathlib.Omega.{arith}
use mathlib.Core.List.{[]}
use Rattle.critical.proofs.quantile.fill.Goals as goal

pub loop-g-init : goal.loop-g-init
loop-g-init c = filled-start _ _ _ []

pub kmax-requires : goal.kmax-requires
kmax-requires c =
    let p = c.requires in
    row-ready _ _ _ _ _ _ (any-k c.args.table.checked) p.2 _ c.loop-g-test.true _ c.row.ensures p.1

pub loop-g-preserved : goal.loop-g-preserved
loop-g-preserved c =
    let p = c.requires in
    row-turn _ _ _ _ _ _ (any-k c.args.table.checked) p.2 _ c.loop-g-test.true _ c.row.ensures _ _ p.0 c.loop-g.invariant c.kmax.ensures

pub returns : goal.returns
returns c = rows_end _ _ _ _ _ _ _ _ c.loop-g-test.false (omega arith) c.loop-g.invariant
