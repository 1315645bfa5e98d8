-- Places that the counts of a record don't use change nothing: two records of the same trial have the same
--   balanced-same         balanced table
--   run-same              balanced full run
--   answer-same           answer of a call for it
--   run_balanced-same     table buffer after it; the work buffer is that of a plain run (trialrun/proofs/Unused.antt)
use Prim.Native.Nat.{ℕ}
use mathlib.Core.Path.{◌≡◌, sym, ap, ap₂, ◌∙◌}
use mathlib.Core.List.{List}
use lib.ListN.{length}
use lib.Ieee.{Float}
use Rattle.refusals.specs.Answers.{Checks, outcome, afterwards}
use Rattle.refusals.specs.Buffers.{written}
use Rattle.runs.specs.Stepdown.{Outcome}
use Rattle.runs.specs.FullRuns.{accepted_run}
use Rattle.balance.specs.Balance.{balanced_table}
use Rattle.trial.specs.Exchange.{row_total, table_of}
use Rattle.trial.specs.Record.{Same}
use Rattle.trial.specs.declared.Trial.{Trial}
use Rattle.trial.proofs.Unused.{offers-same, table_same, rows_same}
use Rattle.trialrun.proofs.Unused.{asked-same, over-same}
use Rattle.trialbalance.specs.TrialBalance.{trial_balanced, trial_balanced_run, trial_balanced_answer, run_balanced}
use Rattle.trialbalance.proofs.Calls.{balanced_run-table}

module _ (t u : Trial) (s : Same t u) where
  pub balanced-same : trial_balanced t ≡ trial_balanced u
  unfolding trial_balanced
  balanced-same = ap₂ (λ (x : List Float) (m : ℕ). balanced_table x m t.shape.offers) (table_same t u s) (rows_same t u s) ∙ ap (balanced_table (table_of u) (row_total u)) (offers-same t u s)

  pub run-same : trial_balanced_run t ≡ trial_balanced_run u
  run-same = balanced_run-table t ∙ over-same t u s balanced-same ∙ sym (balanced_run-table u)

  pub answer-same : (places work : ℕ) → trial_balanced_answer t places work ≡ trial_balanced_answer u places work
  unfolding trial_balanced_answer
  answer-same places work = ap₂ (λ (cs : Checks) (o : Outcome). outcome cs (accepted_run o)) (asked-same t u s places work) run-same

  pub run_balanced-same : (buf : List Float) (work : ℕ) → run_balanced t buf work ≡ run_balanced u buf work
  unfolding run_balanced
  run_balanced-same buf work = ap₂ (λ (cs : Checks) (xs : List Float). afterwards cs (written xs buf) buf) (asked-same t u s (length buf) work) balanced-same
