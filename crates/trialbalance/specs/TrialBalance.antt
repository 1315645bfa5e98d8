-- The balanced full run of a trial with lent buffers. Definitions only.
--   trial_balanced t                  the balanced table of a trial: that of its table
--   trial_balanced_run t              its full run from the state that the plain run begins with: offers are set aside by the trial's figures, not by their ranks
--   trial_balanced_answer t places work   what the call answers, with a table buffer and a work buffer of so many places; it is refused as the plain run is
--   run_balanced t table work         the table buffer after it: the balanced table in its first places
-- What the work buffer holds afterwards is as for the plain run: `run_work` (trialrun/specs/TrialRuns.antt).
use Rattle.std.specs.Prelude.{ℕ, List, length, Result, Float}
use Rattle.refusals.specs.Answers.{outcome, afterwards}
use Rattle.refusals.specs.declared.refusal.Refusal.{Refusal}
use Rattle.refusals.specs.Buffers.{written}
use Rattle.refusals.specs.Limits.{allowance}
use Rattle.runs.specs.Stepdown.{Outcome, full_run}
use Rattle.runs.specs.FullRuns.{accepted_run}
use Rattle.runs.specs.declared.FullRun.{FullRun}
use Rattle.balance.specs.Balance.{balanced_rows, balanced_table}
use Rattle.trial.specs.Aside.{live_mask}
use Rattle.trial.specs.Exchange.{row_total, trial_rows, table_of}
use Rattle.trial.specs.declared.Trial.{Trial}
use Rattle.trialrun.specs.TrialRuns.{trial_start, run_call_checks}

unfoldable pub trial_balanced : Trial → List Float
unfolding balanced_table table_of row_total
trial_balanced t = balanced_table (table_of t) (row_total t) t.shape.offers

unfoldable pub trial_balanced_run : Trial → Outcome
unfolding full_run balanced_rows trial_rows row_total live_mask allowance
trial_balanced_run t = full_run (balanced_rows (trial_rows t)) (trial_start t)

unfoldable pub trial_balanced_answer : Trial → ℕ → ℕ → Result FullRun Refusal
unfolding trial_balanced_run
trial_balanced_answer t places work = outcome (run_call_checks t places work) (accepted_run (trial_balanced_run t))

unfoldable pub run_balanced : Trial → List Float → ℕ → List Float
unfolding trial_balanced
run_balanced t table work = afterwards (run_call_checks t (length table) work) (written (trial_balanced t) table) table
