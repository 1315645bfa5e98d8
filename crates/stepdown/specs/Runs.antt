-- A run: a value that holds sizes, level, k and observed row, and how far it has got. Definitions only.
--   begun rows columns k a b observed   the run before step 1: nothing rejected, no step taken
--   state_of r           the state that it is in: its level as e, and all columns live
--   resume r s          the run in the state s
--   next_run t r        the run after its next step over the table t
--   step_record t r     the record of that step
use Rattle.std.specs.Prelude.{ℕ, false, List, Float}
use Rattle.order.specs.Lists.{rows_of}
use Rattle.refusals.specs.Limits.{allowance}
use Rattle.columns.specs.Columns.{full_mask}
use Rattle.runs.specs.Stepdown.{next, record_of}
use Rattle.runs.specs.declared.State.{State}
use Rattle.runs.specs.declared.Record.{Record}
use Rattle.stepdown.specs.declared.Run.{Run}

abbrev pub begun : ℕ → ℕ → ℕ → ℕ → ℕ → ℕ → Run
begun rows columns k a b observed =
    record { rows = rows; columns = columns; k = k; a = a; b = b; observed = observed; rejected = 0; steps = 0; ended = false }

abbrev pub state_of : Run → State
state_of r = record {
  rows = r.rows;
  columns = r.columns;
  k = r.k;
  e = allowance r.rows r.a r.b;
  observed = r.observed;
  live = full_mask r.columns;
  rejected = r.rejected;
  steps = r.steps;
  ended = r.ended;
}

abbrev pub resume : Run → State → Run
resume r s =
    record { rows = r.rows; columns = r.columns; k = r.k; a = r.a; b = r.b; observed = r.observed; rejected = s.rejected; steps = s.steps; ended = s.ended }

abbrev pub next_run : List Float → Run → Run
next_run t r = resume r (next (rows_of r.rows r.columns t) (state_of r))

abbrev pub step_record : List Float → Run → Record
step_record t r = record_of (rows_of r.rows r.columns t) (state_of r)
