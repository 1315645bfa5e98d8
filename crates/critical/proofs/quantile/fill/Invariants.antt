-- `fill` meets its contract. The invariant: the first g places hold the largest values of the first g rows.
use Rattle.order.specs.Lists.{rows_of}
use Rattle.refusals.proofs.Buffers.{filled}
use Rattle.columns.specs.Columns.{columns_of}
use Rattle.method.specs.Method.{k_max}
use mathlib.Core.Path.{◌≡◌}
use Rattle.critical.proofs.quantile.fill.Given as goal

abbrev pub invariant-loop-g : goal.invariant-loop-g
invariant-loop-g l = l.work ≡ filled (λ row. k_max 1 (columns_of l.table.columns l.set) row) (rows_of l.table.rows l.table.columns l.table.values.now) l.g l.initial.work
