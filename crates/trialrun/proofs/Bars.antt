-- Who set the critical values of a trial's full run (document 02, §5), over the rows X: those of its table, or of its balanced one.
--   some-row, few-rows, trial-ready     what holds before step 1: there is a row, and e is less than their number
--   trial-set-by       what each record tells is true
--   trial-offer        its row is one of the rows, and its offer one of the trial's that is not set aside
--   plain-set-by, plain-offer     both, of the plain run
use Prim.Native.Nat.{ℕ, ◌-◌, ◌<◌}
use native.Mathlib.Omega.{arith}
use mathlib.Core.Path.{◌≡◌, refl, ◌∙◌, subst}
use mathlib.Core.Bool.{Bool, false}
use mathlib.Core.List.{List}
use lib.ListN.{length, get_or}
use lib.Dec.{T}
use lib.Ieee.{Float}
use Rattle.order.proofs.Booleans.{not_T}
use Rattle.order.proofs.Rows.{Sound}
use Rattle.refusals.specs.Limits.{allowance}
use Rattle.refusals.proofs.Limits.{allowance-lt}
use Rattle.columns.proofs.Masks.{has-columns_of}
use Rattle.runs.specs.Stepdown.{full_run}
use Rattle.runs.specs.SetBy.{RecordSetBy}
use Rattle.runs.specs.declared.Record.{Record}
use Rattle.runs.proofs.Bars.{Ready, ready-first, record-set-by, record-offer}
use Rattle.trial.specs.Aside.{live_mask}
use Rattle.trial.specs.Designs.{untested}
use Rattle.trial.specs.Exchange.{figures_at, row_total, trial_rows}
use Rattle.trial.specs.Refusals.{trial_refusal}
use Rattle.trial.specs.declared.Trial.{Trial}
use Rattle.trial.proofs.Accepted.{Accepted, accepted}
use Rattle.trial.proofs.Aside.{live-bit}
use Rattle.trial.proofs.Tables.{trial_rows-length, trial_rows-sound, row_total-some}
use Rattle.trialrun.specs.TrialRuns.{trial_start, trial_run}
use Rattle.trialrun.specs.Bars.{Remaining}

module _ (t : Trial) (acc : Accepted t) (X : List (List Float)) (sound : Sound t.shape.offers X) (tall : length X ≡ row_total t) where
  pub some-row : 0 < length X
  some-row = omega (arith, tall, row_total-some t acc)

  pub few-rows : allowance (row_total t) t.level.a t.level.b < length X
  few-rows = omega (arith, tall, allowance-lt (row_total t) t.level.a t.level.b (row_total-some t acc) acc.levelled.proper)

  pub trial-ready : (trial_start t).ended ≡ false → Ready X (trial_start t)
  trial-ready on = ready-first X (row_total t) t.shape.offers t.shape.k (allowance (row_total t) t.level.a t.level.b) 0 (live_mask t) sound some-row acc.k-some few-rows on

  module _ (i : ℕ) (h : i < length (full_run X (trial_start t)).records) (d : Record) where
    pub trial-set-by : RecordSetBy X (trial_start t) i (get_or (full_run X (trial_start t)).records i d)
    trial-set-by = record-set-by X (trial_start t) refl trial-ready i h d

    pub trial-offer : Remaining t (get_or (full_run X (trial_start t)).records i d)
    trial-offer =
        let b = trial-set-by.1 in
        let o = record-offer X (trial_start t) refl trial-ready i h d in
        let j = (get_or (full_run X (trial_start t)).records i d).offer - 1 in
        let l : j < t.shape.offers = omega (arith, b.offer-some, o.0) in record {
          row_below = omega (arith, b.row_below, tall);
          offer-some = b.offer-some;
          offer-most = o.0;
          tested = not_T (untested t.shape.design (figures_at t j)) (subst (λ (b : Bool). T b) (has-columns_of t.shape.offers (live_mask t) j l ∙ live-bit t j l) o.1);
        }

-- ---- the plain run

module _ (t : Trial) (ok : trial_refusal t ≡ 0) (i : ℕ) (h : i < length (trial_run t).records) (d : Record) where
  pub plain-set-by : RecordSetBy (trial_rows t) (trial_start t) i (get_or (trial_run t).records i d)
  unfolding trial_run
  plain-set-by = let acc = accepted t ok in trial-set-by t acc (trial_rows t) (trial_rows-sound t acc) (trial_rows-length t) i h d

  pub plain-offer : Remaining t (get_or (trial_run t).records i d)
  unfolding trial_run
  plain-offer = let acc = accepted t ok in trial-offer t acc (trial_rows t) (trial_rows-sound t acc) (trial_rows-length t) i h d
