-- The full run of a table at a level: here the level becomes e. Definitions only.
--   table_start rows columns k a b observed    the state before step 1 at the level a/b, all columns live
--   table_run t rows columns k a b observed    the full run of a table t
use Rattle.std.specs.Prelude.{ℕ, List, Float}
use Rattle.order.specs.Lists.{rows_of}
use Rattle.refusals.specs.Limits.{allowance}
use Rattle.columns.specs.Columns.{full_mask}
use Rattle.runs.specs.Stepdown.{first_state, Outcome, full_run}
use Rattle.runs.specs.declared.State.{State}

abbrev pub table_start : ℕ → ℕ → ℕ → ℕ → ℕ → ℕ → State
table_start rows columns k a b observed = first_state rows columns k (allowance rows a b) observed (full_mask columns)

unfoldable pub table_run : List Float → ℕ → ℕ → ℕ → ℕ → ℕ → ℕ → Outcome
unfolding full_run rows_of allowance
table_run t rows columns k a b observed = full_run (rows_of rows columns t) (table_start rows columns k a b observed)
