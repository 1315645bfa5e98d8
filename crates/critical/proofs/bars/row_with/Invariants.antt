-- `row_with` meets its contract. The invariant: the row that is looked for is the one from `g` on.
use Rattle.critical.proofs.LowestRow.{FromRow}
use Rattle.critical.proofs.bars.row_with.Given as goal

abbrev pub invariant-loop-g : goal.invariant-loop-g
invariant-loop-g l = FromRow l.table.values.now l.table.rows l.table.columns l.table.k l.set l.v l.g
