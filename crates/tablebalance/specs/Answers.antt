-- What the calls over balanced tables answer, and what the lent buffers hold afterwards. Definitions only.
--   bad_counts rows columns         the condition of 4 for a table that comes without a k
--   balance_checks, balance_refusal  of making the balanced table in a buffer of so many places: 4, 9, 11, 12
--   balance_buffer t rows columns out   the buffer afterwards: the balanced table in its first places
--   balanced_run t rows columns k a b observed   the full run of the balanced table
--   balanced_checks, balanced_refusal   of a balanced full run, with buffers of so many places: those of the plain one, 12 for the work buffer, then for the table's
--   balanced_answer                 what the balanced full run answers
--   balanced_out, balanced_work     the table's buffer and the work buffer after it
use Rattle.std.specs.Prelude.{ℕ, ◌*◌, Bool, not, ◌||◌, List, ◌∷◌, ◌++◌, length, eqb, Result, Float}
use Rattle.limits.specs.Limits.{table_rows_most, columns_most}
use Rattle.refusals.specs.Answers.{Checks, answer, outcome, first_refusal, afterwards, r4, r9, r11}
use Rattle.refusals.specs.declared.refusal.Refusal.{Refusal}
use Rattle.refusals.specs.Limits.{outside}
use Rattle.refusals.specs.Buffers.{too_short, written, cleared}
use Rattle.runs.specs.Stepdown.{Outcome}
use Rattle.runs.specs.FullRuns.{accepted_run}
use Rattle.runs.specs.Tables.{table_run}
use Rattle.runs.specs.declared.FullRun.{FullRun}
use Rattle.stepdown.specs.Refusals.{bad_value, table_checks, table_run_checks}
use Rattle.balance.specs.Balance.{balanced_table}

-- ---- the balanced table

abbrev pub bad_counts : ℕ → ℕ → Bool
bad_counts rows columns = outside 1 table_rows_most rows || outside 1 columns_most columns

unfoldable pub balance_checks : List Float → ℕ → ℕ → ℕ → Checks
unfolding bad_value
balance_checks t rows columns places =
    (bad_counts rows columns, r4)
    ∷ (not (eqb (length t) (rows * columns)), r9)
    ∷ (bad_value t, r11)
    ∷ too_short places (rows * columns)

unfoldable pub balance_refusal : List Float → ℕ → ℕ → ℕ → ℕ
unfolding first_refusal balance_checks
balance_refusal t rows columns places = first_refusal (balance_checks t rows columns places)

unfoldable pub balance_buffer : List Float → ℕ → ℕ → List Float → List Float
unfolding answer balance_checks balanced_table
balance_buffer t rows columns out = afterwards (balance_checks t rows columns (length out)) (written (balanced_table t rows columns) out) out

-- ---- a full run of it

unfoldable pub balanced_run : List Float → ℕ → ℕ → ℕ → ℕ → ℕ → ℕ → Outcome
unfolding table_run balanced_table
balanced_run t rows columns k a b observed = table_run (balanced_table t rows columns) rows columns k a b observed

abbrev pub balanced_checks : List Float → ℕ → ℕ → ℕ → ℕ → ℕ → ℕ → ℕ → ℕ → Checks
balanced_checks t rows columns k a b observed places work = table_run_checks t rows columns k a b observed work ++ too_short places (rows * columns)

unfoldable pub balanced_refusal : List Float → ℕ → ℕ → ℕ → ℕ → ℕ → ℕ → ℕ → ℕ → ℕ
unfolding first_refusal table_checks
balanced_refusal t rows columns k a b observed places work = first_refusal (balanced_checks t rows columns k a b observed places work)

unfoldable pub balanced_answer : List Float → ℕ → ℕ → ℕ → ℕ → ℕ → ℕ → ℕ → ℕ → Result FullRun Refusal
unfolding balanced_run
balanced_answer t rows columns k a b observed places work = outcome (balanced_checks t rows columns k a b observed places work) (accepted_run (balanced_run t rows columns k a b observed))

unfoldable pub balanced_out : List Float → ℕ → ℕ → ℕ → ℕ → ℕ → ℕ → List Float → ℕ → List Float
unfolding answer table_checks balanced_table
balanced_out t rows columns k a b observed out work = afterwards (balanced_checks t rows columns k a b observed (length out) work) (written (balanced_table t rows columns) out) out

unfoldable pub balanced_work : List Float → ℕ → ℕ → ℕ → ℕ → ℕ → ℕ → ℕ → List Float → List Float
unfolding answer table_checks
balanced_work t rows columns k a b observed places work = afterwards (balanced_checks t rows columns k a b observed places (length work)) (cleared rows work) work
