-- The trials W, and milk and saffron: their tables are those that stand in the examples of crates runs and tablebalance, so what is shown there of their
-- runs is shown of the trials.
--   saffron-table                     the table of milk and saffron
--   saffron-plain                     its full run
--   w-balanced, saffron-balanced      the balanced full runs
use mathlib.Core.Path.{◌≡◌, refl, ap, ◌∙◌}
use mathlib.Core.List.{List}
use lib.Ieee.{Float}
use Rattle.runs.specs.Examples.{W}
use Rattle.runs.specs.Tables.{table_run}
use Rattle.tablebalance.specs.Answers.{balanced_run}
use Rattle.tablebalance.specs.Examples.{Sales}
use Rattle.trial.specs.Aside.{live_mask}
use Rattle.trial.specs.Exchange.{row_total, table_of}
use Rattle.trial.specs.Examples.{trial_w}
use Rattle.trialrun.specs.TrialRuns.{trial_run}
use Rattle.trialrun.proofs.Examples.{w-table}
use Rattle.trialbalance.specs.TrialBalance.{trial_balanced_run}
use Rattle.trialbalance.specs.Examples.{trial_saffron}
use Rattle.trialbalance.proofs.Calls.{nothing-aside}
use Rattle.trialrun.proofs.Runs as plain

pub saffron-table : table_of trial_saffron ≡ Sales
unfolding table_of trial_saffron
saffron-table = refl

pub saffron-plain : trial_run trial_saffron ≡ table_run Sales 8 2 1 1 4 0
unfolding row_total live_mask trial_saffron
saffron-plain = plain.nothing-aside trial_saffron refl ∙ ap (λ (t : List Float). table_run t 8 2 1 1 4 0) saffron-table

pub w-balanced : trial_balanced_run trial_w ≡ balanced_run W 8 2 1 1 4 0
unfolding row_total live_mask trial_w
w-balanced = nothing-aside trial_w refl ∙ ap (λ (t : List Float). balanced_run t 8 2 1 1 4 0) w-table

pub saffron-balanced : trial_balanced_run trial_saffron ≡ balanced_run Sales 8 2 1 1 4 0
unfolding row_total live_mask trial_saffron
saffron-balanced = nothing-aside trial_saffron refl ∙ ap (λ (t : List Float). balanced_run t 8 2 1 1 4 0) saffron-table
