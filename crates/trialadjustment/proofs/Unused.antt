-- Places that the counts of a record don't use change nothing: two records of the same trial have the same
--   figures-same      figures
--   answer-same       answer of a call for the figures; the buffers after it are those of a full run (trialrun/proofs/Unused.antt)
use Prim.Native.Nat.{ℕ}
use mathlib.Core.Path.{◌≡◌, sym, ap, ap₂, ◌∙◌}
use mathlib.Core.List.{List}
use lib.Ieee.{Float}
use Rattle.order.specs.Lists.{rows_of}
use Rattle.refusals.specs.Answers.{Checks, outcome}
use Rattle.adjustment.specs.Adjusted.{adjusted_figures}
use Rattle.adjustment.specs.Answers.{accepted_figures}
use Rattle.adjustment.specs.declared.Adjusted.{Adjusted}
use Rattle.trial.specs.Aside.{live_mask}
use Rattle.trial.specs.Exchange.{row_total, table_of}
use Rattle.trial.specs.Record.{Contents, Same}
use Rattle.trial.specs.declared.Trial.{Trial}
use Rattle.trial.proofs.Tables.{table_of-rows}
use Rattle.trial.proofs.Unused.{table_same, rows_same, live_same}
use Rattle.trialrun.proofs.Unused.{asked-same}
use Rattle.trialadjustment.specs.TrialFigures.{trial_figures, trial_figures_answer}

-- the figures, by the table
figures-table : (t : Trial) → trial_figures t ≡ adjusted_figures (rows_of (row_total t) t.shape.offers (table_of t)) (row_total t) t.shape.offers t.shape.k 0 (live_mask t)
unfolding trial_figures
figures-table t = ap (λ (X : List (List Float)). adjusted_figures X (row_total t) t.shape.offers t.shape.k 0 (live_mask t)) (sym (table_of-rows t))

module _ (t u : Trial) (s : Same t u) where
  pub figures-same : trial_figures t ≡ trial_figures u
  figures-same =
      figures-table t
      ∙ ap₂ (λ (x : List Float) (m : ℕ). adjusted_figures (rows_of m t.shape.offers x) m t.shape.offers t.shape.k 0 (live_mask t)) (table_same t u s) (rows_same t u s)
      ∙ ap₂ (λ (c : Contents) (live : ℕ). let h = c.setting in adjusted_figures (rows_of (row_total u) h.shape.offers (table_of u)) (row_total u) h.shape.offers h.shape.k 0 live) s (live_same t u s)
      ∙ sym (figures-table u)

  pub answer-same : (places work : ℕ) → trial_figures_answer t places work ≡ trial_figures_answer u places work
  unfolding trial_figures_answer
  answer-same places work = ap₂ (λ (cs : Checks) (a : Adjusted). outcome cs a) (asked-same t u s places work) (ap₂ (λ (m : ℕ) (fs : List ℕ). accepted_figures m fs) (rows_same t u s) figures-same)
