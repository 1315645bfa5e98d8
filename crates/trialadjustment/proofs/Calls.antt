-- The call for the figures of a trial: its table is accepted, so its figures can be worked out over the offers that are not set aside.
--   figurable                       what working them out asks for
--   figures-done                    what the code makes of the table in its buffer is the answer for the trial
use Prim.Native.Nat.{ℕ, ◌*◌}
use mathlib.Core.Path.{◌≡◌, ap, ap₂, ◌∙◌}
use mathlib.Core.List.{List}
use lib.ListN.{length, take}
use lib.Ieee.{Float}
use Rattle.order.specs.Lists.{rows_of, padded}
use Rattle.adjustment.specs.Adjusted.{adjusted_figures}
use Rattle.adjustment.specs.Answers.{accepted_figures}
use Rattle.figuring.specs.Internal.{Passable}
use Rattle.trial.specs.Aside.{live_mask}
use Rattle.trial.specs.Exchange.{row_total, table_of}
use Rattle.trial.specs.declared.Trial.{Trial}
use Rattle.trial.specs.declared.TableSize.{TableSize}
use Rattle.trial.proofs.Aside.{live-fits}
use Rattle.trial.proofs.Tables.{row_total-some, table_of-rows}
use Rattle.std.proofs.Common.{Ok, sym}
use Rattle.trialrun.specs.TrialRuns.{run_size, run_table}
use Rattle.trialrun.proofs.Tabled.{free, good, rows_are, columns-are, live-is, front, asked}
use Rattle.trialrun.proofs.Runs.{table-checked}
use Rattle.trialadjustment.specs.TrialFigures.{trial_figures, trial_figures_answer}

module _ (t : Trial) (table work : List Float) (s : TableSize) (q : run_size t (length table) (length work) ≡ Ok s) (w : List Float) (e : w ≡ run_table t table (length work)) where
  abbrev lent : List Float
  lent = take (s.rows * s.columns) w

  pub figurable : Passable (take (s.rows * s.columns) w) s.rows s.columns t.shape.k 0 s.live
  figurable = rw (front t table work s q w e, rows_are t table work s q, columns-are t table work s q, live-is t table work s q)
      (record { ready = table-checked t (good t table work s q); seen = row_total-some t (good t table work s q); live-fits = live-fits t })

  figures-are : adjusted_figures (rows_of s.rows s.columns (take (s.rows * s.columns) w)) s.rows s.columns t.shape.k 0 s.live ≡ trial_figures t
  unfolding trial_figures
  figures-are =
      ap (adjusted_figures (rows_of s.rows s.columns lent) s.rows s.columns t.shape.k 0) (live-is t table work s q)
      ∙ asked t table work s q (λ x m n. adjusted_figures (rows_of m n x) m n t.shape.k 0 (live_mask t)) lent (table_of t) (front t table work s q w e)
      ∙ ap (λ (X : List (List Float)). adjusted_figures X (row_total t) t.shape.offers t.shape.k 0 (live_mask t)) (table_of-rows t)

  pub figures-done : (fs : List ℕ) → fs ≡ padded 32 0 (adjusted_figures (rows_of s.rows s.columns (take (s.rows * s.columns) w)) s.rows s.columns t.shape.k 0 s.live)
      → Ok (record { rows = s.rows; figures = fs }) ≡ trial_figures_answer t (length table) (length work)
  unfolding trial_figures_answer
  figures-done fs p =
      ap₂ (λ (m : ℕ) (l : List ℕ). Ok (record { rows = m; figures = l })) (rows_are t table work s q) (p ∙ ap (padded 32 0) figures-are)
      ∙ sym (free t table work s q (accepted_figures (row_total t) (trial_figures t)))
