-- Offers that are set aside (document 02, §4), in the full run of a trial over the rows X: those of its table, or of its balanced one.
--   aside-told                     an offer is told as set aside exactly where it has not been tested
--   aside-verdict, aside-count     so its verdict tells no step and no critical value, and its count is 0
--   tested-count                   the count of an offer that remains
--   few-none, few-told             where fewer than k offers remain no step is run, and each of them is kept with plus zero
use Prim.Native.Nat.{ℕ, ◌<◌}
use native.Mathlib.Omega.{arith}
use mathlib.Core.Path.{◌≡◌, refl, ap, ◌∙◌}
use mathlib.Core.Bool.{Bool, true, false, not}
use mathlib.Core.List.{List, []}
use lib.ListN.{get_or}
use lib.Dec.{T}
use lib.Ieee.{Float, nan}
use Rattle.order.specs.Order.{plus_zero}
use Rattle.order.proofs.Booleans.{T_true}
use Rattle.refusals.specs.Limits.{allowance}
use Rattle.columns.specs.Columns.{size, in_set}
use Rattle.method.specs.Method.{at_least}
use Rattle.runs.specs.Stepdown.{full_run}
use Rattle.runs.specs.FullRuns.{is_aside}
use Rattle.runs.specs.declared.Verdict.{Verdict}
use Rattle.runs.specs.declared.Verdict.TheVariants.{Kept, Aside}
use Rattle.runs.proofs.ToldColumns.{verdict-aside, count-live, count-aside, aside-exactly, few-records, few-kept}
use Rattle.trial.specs.Aside.{live_offers, live_mask}
use Rattle.trial.specs.Designs.{untested}
use Rattle.trial.specs.Exchange.{figures_at, row_total}
use Rattle.trial.specs.declared.Trial.{Trial}
use Rattle.trial.proofs.Aside.{live-bit, live-columns}
use Rattle.trialrun.specs.TrialRuns.{trial_start}

not-twice : (b : Bool) → not (not b) ≡ b
not-twice true = refl
not-twice false = refl

module _ (t : Trial) (X : List (List Float)) where
  module _ (i : ℕ) (h : i < t.shape.offers) where
    abbrev aside : Bool
    aside = untested t.shape.design (figures_at t i)

    pub aside-told : (d : Verdict) → is_aside (get_or (full_run X (trial_start t)).verdicts i d) ≡ untested t.shape.design (figures_at t i)
    aside-told d = aside-exactly X (trial_start t) i h d ∙ ap not (live-bit t i h) ∙ not-twice aside

    module _ (q : T (untested t.shape.design (figures_at t i))) where
      bit-off : in_set (live_mask t) i ≡ false
      bit-off = live-bit t i h ∙ ap not (T_true aside q)

      pub aside-verdict : (d : Verdict) → get_or (full_run X (trial_start t)).verdicts i d ≡ Aside
      aside-verdict d = verdict-aside X (trial_start t) i h d bit-off

      pub aside-count : get_or (full_run X (trial_start t)).counts i 0 ≡ 0
      aside-count = count-aside X (trial_start t) i h bit-off

    module _ (q : untested t.shape.design (figures_at t i) ≡ false) where
      bit-on : in_set (live_mask t) i ≡ true
      bit-on = live-bit t i h ∙ ap not q

      pub tested-count : get_or (full_run X (trial_start t)).counts i 0 ≡ at_least X (get_or (get_or X 0 []) i nan) i
      tested-count = count-live X (trial_start t) i h bit-on

      pub few-told : size (live_offers t) < t.shape.k → (d : Verdict) → get_or (full_run X (trial_start t)).verdicts i d ≡ Kept plus_zero
      few-told few d = few-kept X (row_total t) t.shape.offers t.shape.k (allowance (row_total t) t.level.a t.level.b) 0 (live_mask t) (omega (arith, ap size (live-columns t))) i h bit-on d

  pub few-none : size (live_offers t) < t.shape.k → (full_run X (trial_start t)).records ≡ []
  few-none few = few-records X (row_total t) t.shape.offers t.shape.k (allowance (row_total t) t.level.a t.level.b) 0 (live_mask t) (omega (arith, ap size (live-columns t)))
