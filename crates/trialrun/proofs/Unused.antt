-- Places that the counts of a record don't use change nothing: two records of the same trial have the same
--   over-same, run-same              full run over the rows of a table that both have, and that of their own
--   asked-same                       conditions of a call with these buffers
--   answer-same                      answer of a call for the full run
--   run_table-same, run_work-same    buffers after it
use Prim.Native.Nat.{ℕ, ◌*◌}
use mathlib.Core.Path.{◌≡◌, sym, ap, ap₂, ◌∙◌}
use mathlib.Core.List.{List, ◌++◌}
use lib.ListN.{length}
use lib.Ieee.{Float}
use Rattle.order.specs.Lists.{rows_of}
use Rattle.refusals.specs.Answers.{Checks, outcome, afterwards}
use Rattle.refusals.specs.Buffers.{too_short, written, cleared}
use Rattle.refusals.specs.Limits.{allowance}
use Rattle.runs.specs.Stepdown.{first_state, Outcome, full_run}
use Rattle.runs.specs.FullRuns.{accepted_run}
use Rattle.trial.specs.Aside.{live_mask}
use Rattle.trial.specs.Exchange.{row_total}
use Rattle.trial.specs.Refusals.{trial_checks}
use Rattle.trial.specs.Record.{Contents, Same}
use Rattle.trial.specs.declared.Trial.{Trial}
use Rattle.trial.proofs.Unused.{offers-same, checks-same, table_same, rows_same, live_same}
use Rattle.trialrun.specs.TrialRuns.{trial_start, trial_run, run_call_checks, trial_answer, run_table, run_work}
use Rattle.trialrun.proofs.Runs.{trial_run-table}

module _ (t u : Trial) (s : Same t u) where
  -- over the rows of a table that both have
  pub over-same : {x y : List Float} → x ≡ y → full_run (rows_of (row_total t) t.shape.offers x) (trial_start t) ≡ full_run (rows_of (row_total u) u.shape.offers y) (trial_start u)
  over-same {x} {y} q =
      ap₂ (λ (z : List Float) (m : ℕ). full_run (rows_of m t.shape.offers z) (first_state m t.shape.offers t.shape.k (allowance m t.level.a t.level.b) 0 (live_mask t))) q (rows_same t u s)
      ∙ ap₂ (λ (c : Contents) (live : ℕ). let h = c.setting in
      full_run (rows_of (row_total u) h.shape.offers y) (first_state (row_total u) h.shape.offers h.shape.k (allowance (row_total u) h.level.a h.level.b) 0 live)) s (live_same t u s)

  pub run-same : trial_run t ≡ trial_run u
  run-same = trial_run-table t ∙ over-same (table_same t u s) ∙ sym (trial_run-table u)

  pub asked-same : (places work : ℕ) → run_call_checks t places work ≡ run_call_checks u places work
  asked-same places work =
      ap₂ (λ (cs : Checks) (m : ℕ). cs ++ (too_short places (m * t.shape.offers) ++ too_short work m)) (checks-same t u s) (rows_same t u s)
      ∙ ap (λ (n : ℕ). trial_checks u ++ (too_short places (row_total u * n) ++ too_short work (row_total u))) (offers-same t u s)

  pub answer-same : (places work : ℕ) → trial_answer t places work ≡ trial_answer u places work
  unfolding trial_answer
  answer-same places work = ap₂ (λ (cs : Checks) (o : Outcome). outcome cs (accepted_run o)) (asked-same places work) run-same

  pub run_table-same : (buf : List Float) (work : ℕ) → run_table t buf work ≡ run_table u buf work
  unfolding run_table
  run_table-same buf work = ap₂ (λ (cs : Checks) (xs : List Float). afterwards cs (written xs buf) buf) (asked-same (length buf) work) (table_same t u s)

  pub run_work-same : (places : ℕ) (buf : List Float) → run_work t places buf ≡ run_work u places buf
  unfolding run_work
  run_work-same places buf = ap₂ (λ (cs : Checks) (m : ℕ). afterwards cs (cleared m buf) buf) (asked-same places (length buf)) (rows_same t u s)
