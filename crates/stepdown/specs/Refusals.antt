-- What tables and runs are turned away for: conditions with their refusals, in the stated order. Definitions only.
--   bad_shape rows columns k    the condition of 4 for a table
--   bad_value t                 the condition of 11: a value is infinite or no number
--   table_checks, table_refusal         of a table: 4, 3, 9, 10, 11
--   table_run_checks, table_run_refusal  of a full run of a table, with a lent work buffer: the same, then 12
--   begin_checks, begin_refusal         of beginning a run: 4, 3, 10
--   bad_figures r, progress_clauses r, spoiled r   the condition of 14: `any` of its clauses holds
--   step_checks, step_refusal           of a step: 14, 13, 9, 11, 12
use Rattle.std.specs.Prelude.{ℕ, ◌*◌, ◌^◌, Bool, false, not, ◌&&◌, ◌||◌, List, [], ◌∷◌, ◌++◌, length, ltb, leb, eqb, Float}
use Rattle.order.specs.Order.{finite}
use Rattle.order.specs.Counting.{all}
use Rattle.refusals.specs.Answers.{Checks, first_refusal, r3, r4, r9, r10, r11, r13, r14}
use Rattle.limits.specs.Limits.{table_rows_most, columns_most, steps_most}
use Rattle.refusals.specs.Limits.{bad_sizes, bad_level}
use Rattle.refusals.specs.Buffers.{too_short}
use Rattle.columns.specs.Columns.{size, columns_of}
use Rattle.stepdown.specs.declared.Run.{Run}

abbrev pub bad_shape : ℕ → ℕ → ℕ → Bool
bad_shape rows columns k = bad_sizes table_rows_most columns_most rows columns k

unfoldable pub bad_value : List Float → Bool
unfolding all finite
bad_value t = not (all finite t)

-- ---- a table

unfoldable pub table_checks : List Float → ℕ → ℕ → ℕ → ℕ → ℕ → ℕ → Checks
unfolding bad_sizes bad_level bad_value
table_checks t rows columns k a b observed =
    (bad_shape rows columns k, r4)
    ∷ (bad_level a b, r3)
    ∷ (not (eqb (length t) (rows * columns)), r9)
    ∷ (leb rows observed, r10)
    ∷ (bad_value t, r11)
    ∷ []

unfoldable pub table_refusal : List Float → ℕ → ℕ → ℕ → ℕ → ℕ → ℕ → ℕ
unfolding first_refusal table_checks
table_refusal t rows columns k a b observed = first_refusal (table_checks t rows columns k a b observed)

abbrev pub table_run_checks : List Float → ℕ → ℕ → ℕ → ℕ → ℕ → ℕ → ℕ → Checks
table_run_checks t rows columns k a b observed places = table_checks t rows columns k a b observed ++ too_short places rows

unfoldable pub table_run_refusal : List Float → ℕ → ℕ → ℕ → ℕ → ℕ → ℕ → ℕ → ℕ
unfolding first_refusal table_checks
table_run_refusal t rows columns k a b observed places = first_refusal (table_run_checks t rows columns k a b observed places)

-- ---- beginning a run

abbrev pub begin_checks : ℕ → ℕ → ℕ → ℕ → ℕ → ℕ → Checks
begin_checks rows columns k a b observed = (bad_shape rows columns k, r4) ∷ (bad_level a b, r3) ∷ (leb rows observed, r10) ∷ []

unfoldable pub begin_refusal : ℕ → ℕ → ℕ → ℕ → ℕ → ℕ → ℕ
unfolding first_refusal bad_sizes bad_level
begin_refusal rows columns k a b observed = first_refusal (begin_checks rows columns k a b observed)

-- ---- 14: a run that is spoiled, clause by clause

-- its own figures break 3, 4 or 10
unfoldable pub bad_figures : Run → Bool
unfolding bad_sizes bad_level
bad_figures r = bad_shape r.rows r.columns r.k || (bad_level r.a r.b || leb r.rows r.observed)

-- the clauses on how far it has got
unfoldable pub progress_clauses : Run → List Bool
unfolding size columns_of
progress_clauses r =
    let n = size (columns_of r.columns r.rejected) in
    let going = not r.ended in
    let begun = ltb 0 r.steps in
    -- a rejected offer that the table hasn't, by the run's own columns
    leb (2 ^ r.columns) r.rejected
    -- more than 32 steps
    ∷ ltb steps_most r.steps
    -- rejections at step 0
    ∷ (eqb r.steps 0 && not (eqb r.rejected 0))
    -- or ended at step 0
    ∷ (eqb r.steps 0 && r.ended)
    -- not ended with fewer rejections than steps
    ∷ (going && ltb n r.steps)
    -- not ended after step 1 or later with fewer than k rejected
    ∷ (going && (begun && ltb n r.k))
    -- or none left
    ∷ (going && (begun && leb r.columns n))
    ∷ []

-- one of them holds
unfoldable pub any : List Bool → Bool
any [] = false
any (b ∷ bs) = b || any bs

unfoldable pub spoiled : Run → Bool
unfolding bad_figures progress_clauses any
spoiled r = any (bad_figures r ∷ progress_clauses r)

-- ---- a step

abbrev pub step_checks : List Float → Run → ℕ → Checks
step_checks t r places =
    (spoiled r, r14)
    ∷ (r.ended, r13)
    ∷ (not (eqb (length t) (r.rows * r.columns)), r9)
    ∷ (bad_value t, r11)
    ∷ too_short places r.rows

unfoldable pub step_refusal : List Float → Run → ℕ → ℕ
unfolding first_refusal spoiled bad_value
step_refusal t r places = first_refusal (step_checks t r places)
