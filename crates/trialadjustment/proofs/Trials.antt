-- What the figures of an accepted trial say of its full runs.
--   trial-law            an offer's figure is at most the e of the trial's own level exactly where the trial's full run rejects it
--   trial-stays          loosening: an offer that is rejected at e is rejected at every larger one below M
--   trial-figure-law     an offer's figure is at most e exactly where the method rejects it at e, for every e below M
--   trial-pass           where k or more offers remain, one pass over them gives the figures
--   trial-without        of the offers that remain they are the figures of the table of these offers
--   trial-aside, trial-few     the figure of an offer that is set aside is M; where fewer than k offers remain every figure is
--   one-level            the level has no part in the figures: they are the same for every trial with the same shape and the same figures of each offer
--   trial-length, trial-most     there is a figure for each offer, and it is at most M
use Prim.Native.Nat.{ℕ, ◌≤◌, ◌<◌}
use native.Mathlib.Omega.{arith}
use mathlib.Core.Path.{◌≡◌, sym, ap, ap₂, ◌∙◌, subst}
use mathlib.Core.Logic.{◌↔◌}
use mathlib.Core.Bool.{not}
use mathlib.Core.List.{List, map}
use lib.ListN.{length, get_or, replicate}
use lib.Dec.{T}
use lib.IntN.{ℤ}
use lib.Ieee.{Float, binary64, of_int}
use Rattle.order.specs.Order.{plus_zero}
use Rattle.order.specs.Lists.{tabulate}
use Rattle.order.proofs.Booleans.{T_true}
use Rattle.refusals.specs.Limits.{allowance}
use Rattle.refusals.proofs.Limits.{allowance-lt}
use Rattle.columns.specs.Columns.{Columns, size, within, mask_of, full_mask}
use Rattle.runs.specs.FullRuns.{is_rejected}
use Rattle.runs.specs.declared.Verdict.TheVariants.{Kept}
use Rattle.adjustment.specs.Adjusted.{rejected_at, adjusted_figure, adjusted_figures, table_figures}
use Rattle.adjustment.specs.Passes.{k_max_pass}
use Rattle.adjustment.proofs.Figures.{figure-law, figure-most, figure-aside, stays-rejected, figures-length, figures-at, figures-few}
use Rattle.adjustment.proofs.Passing.{k_max_pass-agrees}
use Rattle.adjustment.proofs.Without.{figures-without}
use Rattle.trial.specs.Aside.{live_offers, live_mask}
use Rattle.trial.specs.Designs.{row_count, entry_of, untested}
use Rattle.trial.specs.Exchange.{row_total, by_offer, figures_at, row_of, trial_rows}
use Rattle.trial.specs.Refusals.{trial_refusal}
use Rattle.trial.specs.declared.Shape.{Shape}
use Rattle.trial.specs.declared.Trial.{Trial}
use Rattle.trial.proofs.Accepted.{Accepted, accepted}
use Rattle.trial.proofs.Aside.{live-columns, live-bit}
use Rattle.trial.proofs.Tables.{trial_rows-length, trial_rows-sound, row_total-some}
use Rattle.trialrun.specs.TrialRuns.{trial_run}
use Rattle.trialrun.proofs.Without.{remaining_table, remaining-rows}
use Rattle.trialadjustment.specs.TrialFigures.{rejected_of, trial_figures}

pub one-level : (t u : Trial) → t.shape ≡ u.shape → by_offer t ≡ by_offer u → trial_figures t ≡ trial_figures u
unfolding trial_figures trial_rows row_of row_total live_mask live_offers
one-level t u = ap₂ (λ (s : Shape) (figures : List (List ℤ)).
    adjusted_figures (tabulate (row_count s.design) (λ g. map (λ xs. of_int binary64 (entry_of s.design g xs)) figures)) (row_count s.design) s.offers s.k 0
    (mask_of (map (λ xs. not (untested s.design xs)) figures)))

module _ (t : Trial) where
  abbrev X : List (List Float)
  X = trial_rows t

  pub trial-length : length (trial_figures t) ≡ t.shape.offers
  unfolding trial_figures
  trial-length = figures-length X (row_total t) t.shape.offers t.shape.k 0 (live_mask t)

  figure-at : (i : ℕ) → i < t.shape.offers → get_or (trial_figures t) i 0 ≡ adjusted_figure (trial_rows t) (row_total t) t.shape.offers t.shape.k 0 (live_mask t) i
  unfolding trial_figures
  figure-at = figures-at X (row_total t) t.shape.offers t.shape.k 0 (live_mask t)

  pub trial-most : (i : ℕ) → i < t.shape.offers → get_or (trial_figures t) i 0 ≤ row_total t
  trial-most i h = omega (arith, figure-at i h, figure-most X (row_total t) t.shape.offers t.shape.k 0 (live_mask t) i)

  pub trial-aside : (i : ℕ) → i < t.shape.offers → T (untested t.shape.design (figures_at t i)) → get_or (trial_figures t) i 0 ≡ row_total t
  trial-aside i h q = figure-at i h ∙ figure-aside X (row_total t) t.shape.offers t.shape.k 0 (live_mask t) i h (live-bit t i h ∙ ap not (T_true (untested t.shape.design (figures_at t i)) q))

  pub trial-few : size (live_offers t) < t.shape.k → trial_figures t ≡ replicate t.shape.offers (row_total t)
  unfolding trial_figures
  trial-few few = figures-few X (row_total t) t.shape.offers t.shape.k 0 (live_mask t) (omega (arith, ap size (live-columns t)))

  module _ (ok : trial_refusal t ≡ 0) where
    acc : Accepted t
    acc = accepted t ok

    tall : row_total t ≡ length (trial_rows t)
    tall = sym (trial_rows-length t)

    narrow : t.shape.offers ≤ 32
    narrow = omega (arith, acc.offers-most)

    pub trial-pass : t.shape.k ≤ size (live_offers t) → k_max_pass t.shape.k (trial_rows t) (live_offers t) 0 ≡ trial_figures t
    unfolding trial_figures
    trial-pass held =
        ap (λ (K : Columns). k_max_pass t.shape.k X K 0) (sym (live-columns t))
        ∙ k_max_pass-agrees X (row_total t) t.shape.offers t.shape.k 0 (live_mask t) (trial_rows-sound t acc) tall (row_total-some t acc) narrow acc.k-some (omega (arith, ap size (live-columns t)))

    pub trial-without : within (live_offers t) (trial_figures t) ≡ table_figures (remaining_table t) (row_total t) (size (live_offers t)) t.shape.k 0
    unfolding trial_figures table_figures
    trial-without =
        subst (λ (L : Columns). within L (adjusted_figures X (row_total t) t.shape.offers t.shape.k 0 (live_mask t)) ≡ adjusted_figures (map (within L) X) (row_total t) (size L) t.shape.k 0 (full_mask (size L))) (live-columns t)
        (figures-without X (row_total t) t.shape.offers t.shape.k 0 (live_mask t) (trial_rows-sound t acc) (omega (arith, tall, row_total-some t acc)))
        ∙ ap (λ (Y : List (List Float)). adjusted_figures Y (row_total t) (size (live_offers t)) t.shape.k 0 (full_mask (size (live_offers t)))) (sym (remaining-rows t ok))

    module _ (i : ℕ) (h : i < t.shape.offers) where
      pub trial-stays : (e e' : ℕ) → e ≤ e' → e' < row_total t → T (rejected_of t e i) → T (rejected_of t e' i)
      trial-stays = stays-rejected X (row_total t) t.shape.offers t.shape.k 0 (live_mask t) i h (trial_rows-sound t acc) tall (row_total-some t acc) narrow acc.k-some

      pub trial-figure-law : (e : ℕ) → e < row_total t → (get_or (trial_figures t) i 0 ≤ e) ↔ T (rejected_of t e i)
      trial-figure-law e rare = subst (λ (f : ℕ). (f ≤ e) ↔ T (rejected_of t e i)) (sym (figure-at i h))
          (figure-law X (row_total t) t.shape.offers t.shape.k 0 (live_mask t) i h (trial_rows-sound t acc) tall (row_total-some t acc) narrow acc.k-some e rare)

      pub trial-law : (get_or (trial_figures t) i 0 ≤ allowance (row_total t) t.level.a t.level.b) ↔ T (is_rejected (get_or (trial_run t).verdicts i (Kept plus_zero)))
      unfolding trial_run rejected_at
      trial-law = trial-figure-law (allowance (row_total t) t.level.a t.level.b) (allowance-lt (row_total t) t.level.a t.level.b (row_total-some t acc) acc.levelled.proper)
