-- What the public calls answer, and what the lent work buffer holds afterwards: each in the one form of an answer. Definitions only.
--   begin_answer       of beginning a run
--   step_answer, step_work   of a step, for a work buffer of so many places; the work buffer after it
--   full_answer, full_work   of a full run of a table; the work buffer after it
--   Told, told_by_beginning, told_by_step  the paper's number and values for each case of an answer: the number (0: accepted), the run that is held afterwards, the record
use Rattle.std.specs.Prelude.{ℕ, List, length, Result, Ok, Err, Float}
use Rattle.refusals.specs.Answers.{number, outcome, afterwards}
use Rattle.refusals.specs.declared.refusal.Refusal.{Refusal}
use Rattle.refusals.specs.Buffers.{cleared}
use Rattle.runs.specs.FullRuns.{no_record, accepted_run}
use Rattle.runs.specs.Tables.{table_run}
use Rattle.runs.specs.declared.Record.{Record}
use Rattle.runs.specs.declared.FullRun.{FullRun}
use Rattle.stepdown.specs.Runs.{begun, next_run, step_record}
use Rattle.stepdown.specs.Refusals.{table_run_checks, begin_checks, step_checks}
use Rattle.stepdown.specs.declared.Run.{Run}

unfoldable pub begin_answer : ℕ → ℕ → ℕ → ℕ → ℕ → ℕ → Result Run Refusal
begin_answer rows columns k a b observed = outcome (begin_checks rows columns k a b observed) (begun rows columns k a b observed)

unfoldable pub step_answer : List Float → Run → ℕ → Result (Run × Record) Refusal
step_answer t r places = outcome (step_checks t r places) (next_run t r, step_record t r)

unfoldable pub step_work : List Float → Run → List Float → List Float
step_work t r work = afterwards (step_checks t r (length work)) (cleared r.rows work) work

unfoldable pub full_answer : List Float → ℕ → ℕ → ℕ → ℕ → ℕ → ℕ → ℕ → Result FullRun Refusal
unfolding table_run
full_answer t rows columns k a b observed places = outcome (table_run_checks t rows columns k a b observed places) (accepted_run (table_run t rows columns k a b observed))

unfoldable pub full_work : List Float → ℕ → ℕ → ℕ → ℕ → ℕ → ℕ → List Float → List Float
full_work t rows columns k a b observed work = afterwards (table_run_checks t rows columns k a b observed (length work)) (cleared rows work) work

-- ---- an answer, case by case

-- a run that is refused is held unchanged, and there is no record
pub record Told : Type 0 where
  pub number : ℕ
  pub held : Run
  pub logged : Record

abbrev pub told : ℕ → Run → Record → Told
told n r m = record { number = n; held = r; logged = m }

abbrev pub told_by_beginning : Run → Result Run Refusal → Told
told_by_beginning r (Ok s) = told 0 s no_record
told_by_beginning r (Err n) = told (number n) r no_record

abbrev pub told_by_step : Run → Result (Run × Record) Refusal → Told
told_by_step r (Ok p) = told 0 p.0 p.1
told_by_step r (Err n) = told (number n) r no_record
