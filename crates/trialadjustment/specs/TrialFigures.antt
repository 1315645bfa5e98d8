-- The adjusted figures of a trial with lent buffers. Definitions only.
--   rejected_of t e i    the method at e rejects offer i (from 0): on the trial's table over the offers that are not set aside, with row 0 observed and its own k
--   trial_figures t      the adjusted figures of its offers: those of its table's columns in the same way
--   trial_figures_answer t places work   what the call answers, with a table buffer and a work buffer of so many places; it is refused as a full run is
-- What the lent buffers hold afterwards is as for a full run: `run_table`, `run_work` (trialrun/specs/TrialRuns.antt).
use Rattle.std.specs.Prelude.{ℕ, Bool, List, Result}
use Rattle.refusals.specs.Answers.{outcome}
use Rattle.refusals.specs.declared.refusal.Refusal.{Refusal}
use Rattle.adjustment.specs.Adjusted.{rejected_at, adjusted_figures}
use Rattle.adjustment.specs.Answers.{accepted_figures}
use Rattle.adjustment.specs.declared.Adjusted.{Adjusted}
use Rattle.trial.specs.Aside.{live_mask}
use Rattle.trial.specs.Exchange.{row_total, trial_rows}
use Rattle.trial.specs.declared.Trial.{Trial}
use Rattle.trialrun.specs.TrialRuns.{run_call_checks}

abbrev pub rejected_of : Trial → ℕ → ℕ → Bool
rejected_of t e i = rejected_at (trial_rows t) (row_total t) t.shape.offers t.shape.k 0 (live_mask t) e i

unfoldable pub trial_figures : Trial → List ℕ
unfolding adjusted_figures trial_rows row_total live_mask
trial_figures t = adjusted_figures (trial_rows t) (row_total t) t.shape.offers t.shape.k 0 (live_mask t)

unfoldable pub trial_figures_answer : Trial → ℕ → ℕ → Result Adjusted Refusal
unfolding trial_figures
trial_figures_answer t places work = outcome (run_call_checks t places work) (accepted_figures (row_total t) (trial_figures t))
