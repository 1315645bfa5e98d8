-- The full run of a trial with lent buffers. Definitions only.
--   trial_start t       the state before step 1: at the trial's level and k, row 0 observed, and the offers live that are not set aside
--   trial_run t         the full run of a trial: that of its table from there
--   run_call_checks, run_call_refusal  of a full run, with a table buffer and a work buffer of so many places: the record's refusals, then 12 for either
--   run_size t places work           the size of the table that is made for it, with the live offers
--   run_table, run_work              the table buffer and the work buffer after it; both unchanged where it is refused
--   trial_answer t places work       what the full run answers
use Rattle.std.specs.Prelude.{ℕ, ◌*◌, List, ◌++◌, length, Result, Float}
use Rattle.refusals.specs.Answers.{Checks, outcome, first_refusal, afterwards}
use Rattle.refusals.specs.declared.refusal.Refusal.{Refusal}
use Rattle.refusals.specs.Buffers.{too_short, written, cleared}
use Rattle.refusals.specs.Limits.{allowance}
use Rattle.runs.specs.Stepdown.{first_state, Outcome, full_run}
use Rattle.runs.specs.FullRuns.{accepted_run}
use Rattle.runs.specs.declared.State.{State}
use Rattle.runs.specs.declared.FullRun.{FullRun}
use Rattle.trial.specs.Aside.{live_mask}
use Rattle.trial.specs.Exchange.{row_total, trial_rows, table_of}
use Rattle.trial.specs.Lent.{full_size}
use Rattle.trial.specs.Refusals.{trial_checks}
use Rattle.trial.specs.declared.TableSize.{TableSize}
use Rattle.trial.specs.declared.Trial.{Trial}

abbrev pub trial_start : Trial → State
trial_start t = first_state (row_total t) t.shape.offers t.shape.k (allowance (row_total t) t.level.a t.level.b) 0 (live_mask t)

unfoldable pub trial_run : Trial → Outcome
unfolding full_run trial_rows row_total live_mask allowance
trial_run t = full_run (trial_rows t) (trial_start t)

abbrev pub run_call_checks : Trial → ℕ → ℕ → Checks
run_call_checks t places work = trial_checks t ++ (too_short places (row_total t * t.shape.offers) ++ too_short work (row_total t))

unfoldable pub run_call_refusal : Trial → ℕ → ℕ → ℕ
unfolding first_refusal
run_call_refusal t places work = first_refusal (run_call_checks t places work)

unfoldable pub run_size : Trial → ℕ → ℕ → Result TableSize Refusal
unfolding trial_checks row_total live_mask
run_size t places work = outcome (run_call_checks t places work) (full_size t)

unfoldable pub run_table : Trial → List Float → ℕ → List Float
unfolding table_of
run_table t table work = afterwards (run_call_checks t (length table) work) (written (table_of t) table) table

unfoldable pub run_work : Trial → ℕ → List Float → List Float
run_work t places work = afterwards (run_call_checks t places (length work)) (cleared (row_total t) work) work

unfoldable pub trial_answer : Trial → ℕ → ℕ → Result FullRun Refusal
unfolding trial_run
trial_answer t places work = outcome (run_call_checks t places work) (accepted_run (trial_run t))
