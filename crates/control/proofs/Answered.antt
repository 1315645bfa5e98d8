-- Demand 3 over what the functions answer: the verdicts that a caller finds are the method's.
--   verdicts-told      the verdicts of an accepted full run
--   tables-answered, trials-answered     both forms, with buffers that are long enough
--   balanced-tables-answered, balanced-trials-answered     the same of balanced full runs
use Prim.Native.Nat.{ℕ, ◌-◌, ◌*◌, ◌≤◌, ◌<◌}
use native.Mathlib.Omega.{arith}
use mathlib.Core.Path.{◌≡◌, refl, sym, ap, ap₂, ◌∙◌, subst}
use mathlib.Core.Bool.{Bool}
use mathlib.Core.List.{List, [], ◌∷◌, ◌++◌, map}
use lib.ListN.{length, replicate, length-map}
use lib.Seq.{take_at}
use lib.Ieee.{Float}
use Rattle.order.specs.Order.{plus_zero}
use Rattle.order.specs.Lists.{rows_of}
use Rattle.refusals.specs.Answers.{Checks, outcome, value_or, first_refusal}
use Rattle.refusals.specs.Buffers.{too_short}
use Rattle.refusals.specs.Limits.{allowance}
use Rattle.refusals.proofs.Answers.{value-passed, first_passes}
use Rattle.refusals.proofs.Buffers.{lent-passes}
use Rattle.runs.specs.Stepdown.{Outcome}
use Rattle.runs.specs.FullRuns.{accepted_run, blank_run, verdicts_in}
use Rattle.runs.specs.Tables.{table_start, table_run}
use Rattle.runs.specs.declared.Verdict.{Verdict}
use Rattle.runs.specs.declared.Verdict.TheVariants.{Kept}
use Rattle.runs.proofs.ToldColumns.{verdicts-length}
use Rattle.stepdown.specs.Refusals.{table_checks, table_refusal, table_run_checks}
use Rattle.stepdown.specs.Answers.{full_answer}
use Rattle.balance.specs.Balance.{balanced_rows, balanced_table}
use Rattle.tablebalance.specs.Answers.{balanced_run, balanced_checks, balanced_answer}
use Rattle.trial.specs.Record.{ArrayLengths, Setting, Keeps}
use Rattle.trial.specs.Exchange.{row_total, trial_rows}
use Rattle.trial.specs.Refusals.{trial_checks, trial_refusal}
use Rattle.trial.specs.declared.Trial.{Trial}
use Rattle.trialrun.specs.TrialRuns.{trial_start, trial_run, run_call_checks, trial_answer}
use Rattle.trialbalance.specs.TrialBalance.{trial_balanced_run, trial_balanced_answer}
use Rattle.control.proofs.General.{counted}
use Rattle.control.proofs.Tables.{tables, balanced-tables}
use Rattle.control.proofs.Trials.{trials, balanced-trials, same_total}
use Rattle.control.specs.Statements.{runs_that_reject, SameOn, ListedOn}

pub verdicts-told : (n : ℕ) (o : Outcome) → length o.verdicts ≡ n → verdicts_in n (accepted_run o) ≡ o.verdicts
unfolding accepted_run
verdicts-told n o h = take_at o.verdicts (replicate (32 - length o.verdicts) (Kept plus_zero)) n h

-- and of a call that nothing refuses
shown : (n : ℕ) (cs : Checks) (o : Outcome) → first_refusal cs ≡ 0 → length o.verdicts ≡ n → verdicts_in n (value_or blank_run (outcome cs (accepted_run o))) ≡ o.verdicts
shown n cs o ok h = ap (verdicts_in n) (value-passed cs (accepted_run o) blank_run ok) ∙ verdicts-told n o h

run-verdicts : (t : List Float) (rows columns k a b o : ℕ) → length (table_run t rows columns k a b o).verdicts ≡ columns
unfolding table_run
run-verdicts t rows columns k a b o = verdicts-length (rows_of rows columns t) (table_start rows columns k a b o)

-- ---- tables

module _ (rows columns k a b : ℕ) (t : List Float) (idle : ℕ → Bool) (runs : ℕ → List Float) (o : ℕ) (ok : table_refusal t rows columns k a b o ≡ 0)
    (oks : (g : ℕ) → g < rows → table_refusal (runs g) rows columns k a b g ≡ 0)
    (same : (g : ℕ) → g < rows → SameOn idle rows columns t (runs g)) where
  abbrev e : ℕ
  e = allowance rows a b

  run-passes : (work : ℕ) → rows ≤ work → (g : ℕ) → g < rows → first_refusal (table_run_checks (runs g) rows columns k a b g work) ≡ 0
  unfolding table_refusal
  run-passes work h g l = lent-passes (table_checks (runs g) rows columns k a b g) work rows (oks g l) h

  pub tables-answered : (work : ℕ) → rows ≤ work → runs_that_reject k rows idle (λ g. verdicts_in columns (value_or blank_run (full_answer (runs g) rows columns k a b g work))) ≤ e
  unfolding full_answer
  tables-answered work h =
      counted k rows e idle _ _
      (λ g l. shown columns (table_run_checks (runs g) rows columns k a b g work) (table_run (runs g) rows columns k a b g) (run-passes work h g l) (run-verdicts (runs g) rows columns k a b g))
      (tables rows columns k a b t idle runs o ok oks same)

  pub balanced-tables-answered : (places work : ℕ) → rows * columns ≤ places → rows ≤ work
      → runs_that_reject k rows idle (λ g. verdicts_in columns (value_or blank_run (balanced_answer (runs g) rows columns k a b g places work))) ≤ e
  unfolding balanced_answer balanced_run
  balanced-tables-answered places work r h =
      counted k rows e idle _ _
      (λ g l. shown columns (balanced_checks (runs g) rows columns k a b g places work) (balanced_run (runs g) rows columns k a b g)
      (lent-passes (table_run_checks (runs g) rows columns k a b g work) places (rows * columns) (run-passes work h g l) r) (run-verdicts (balanced_table (runs g) rows columns) rows columns k a b g))
      (balanced-tables rows columns k a b t idle runs o ok oks same)

-- ---- trials

module _ (t : Trial) where
  trial-passes : (places work : ℕ) → row_total t * t.shape.offers ≤ places → row_total t ≤ work → trial_refusal t ≡ 0 → first_refusal (run_call_checks t places work) ≡ 0
  unfolding trial_refusal
  trial-passes places work h l ok =
      let table = too_short places (row_total t * t.shape.offers) in
      first_passes (trial_checks t) (table ++ too_short work (row_total t)) 0 (sym ok) refl
      ∙ lent-passes table work (row_total t) (lent-passes [] places (row_total t * t.shape.offers) refl h) l

  trial-verdicts : length (trial_run t).verdicts ≡ t.shape.offers
  unfolding trial_run
  trial-verdicts = verdicts-length (trial_rows t) (trial_start t)

  balanced-verdicts : length (trial_balanced_run t).verdicts ≡ t.shape.offers
  unfolding trial_balanced_run
  balanced-verdicts = verdicts-length (balanced_rows (trial_rows t)) (trial_start t)

module _ (t : Trial) (idle : ℕ → Bool) (runs : ℕ → Trial) (ty : ArrayLengths t) (ok : trial_refusal t ≡ 0)
    (oks : (g : ℕ) → g < row_total t → trial_refusal (runs g) ≡ 0)
    (keeps : (g : ℕ) → g < row_total t → Keeps t (runs g))
    (listing : (g : ℕ) → g < row_total t → ListedOn idle g t (runs g)) where
  module _ (places work : ℕ) (h : row_total t * t.shape.offers ≤ places) (l : row_total t ≤ work) where
    trial-shown : (out : Trial → Outcome) → ((u : Trial) → length (out u).verdicts ≡ u.shape.offers) → (g : ℕ) → g < row_total t
        → verdicts_in t.shape.offers (value_or blank_run (outcome (run_call_checks (runs g) places work) (accepted_run (out (runs g))))) ≡ (out (runs g)).verdicts
    trial-shown out long g m =
        let q = same_total t (runs g) (keeps g m) in
        let p = ap (λ (s : Setting). s.shape.offers) (keeps g m) in
        shown t.shape.offers (run_call_checks (runs g) places work) (out (runs g))
        (trial-passes (runs g) places work (subst (λ (n : ℕ). n ≤ places) (sym (ap₂ (λ (x y : ℕ). x * y) q p)) h) (omega arith) (oks g m)) (long (runs g) ∙ p)

    pub trials-answered : runs_that_reject t.shape.k (row_total t) idle (λ g. verdicts_in t.shape.offers (value_or blank_run (trial_answer (runs g) places work))) ≤ allowance (row_total t) t.level.a t.level.b
    unfolding trial_answer
    trials-answered = counted t.shape.k (row_total t) _ idle _ _ (trial-shown trial_run trial-verdicts) (trials t idle runs ty ok oks keeps listing)

    pub balanced-trials-answered : runs_that_reject t.shape.k (row_total t) idle (λ g. verdicts_in t.shape.offers (value_or blank_run (trial_balanced_answer (runs g) places work))) ≤ allowance (row_total t) t.level.a t.level.b
    unfolding trial_balanced_answer
    balanced-trials-answered = counted t.shape.k (row_total t) _ idle _ _ (trial-shown trial_balanced_run balanced-verdicts) (balanced-trials t idle runs ty ok oks keeps listing)
