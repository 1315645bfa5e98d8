-- `fill_above` meets its contract. The invariant is `Raised` (proofs/Raising.antt).
use Rattle.order.specs.Lists.{rows_of}
use Rattle.columns.specs.Columns.{columns_of}
use Rattle.critical.proofs.Raising.{Raised}
use Rattle.critical.proofs.raise.fill_above.Given as goal

abbrev pub invariant-loop-i : goal.invariant-loop-i
invariant-loop-i l = Raised (rows_of l.table.rows l.table.columns l.table.values.now) l.table.k (columns_of l.table.columns l.set) l.v l.kept l.initial.work l.work l.n l.i
