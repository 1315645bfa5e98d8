-- The lines of offers in a trial's report, plain or balanced, by what the full run tells of them.
--   aside-line                the line of an offer that is set aside: its printed code, `aside`, 0, 0
--   few-line                  where fewer than k offers remain, that of one of them: its printed code, `kept`, 0 and its count
--   few-end                   none is rejected then
use Prim.Native.Nat.{ℕ, ◌<◌}
use native.Mathlib.Omega.{arith}
use mathlib.Core.Path.{◌≡◌, ap, ap₂, ◌∙◌}
use mathlib.Core.Bool.{false}
use mathlib.Core.List.{List, [], ◌∷◌}
use lib.ListN.{length, get_or}
use lib.Dec.{T}
use lib.Ieee.{Float, nan}
use Rattle.order.specs.Order.{plus_zero}
use Rattle.refusals.specs.Limits.{allowance}
use Rattle.columns.specs.Columns.{size}
use Rattle.runs.specs.Stepdown.{Outcome, full_run}
use Rattle.runs.specs.FullRuns.{accepted_run}
use Rattle.runs.specs.declared.Record.{Record}
use Rattle.runs.specs.declared.Verdict.{Verdict}
use Rattle.runs.specs.declared.Verdict.TheVariants.{Rejected, Kept, Aside}
use Rattle.runs.proofs.ToldColumns.{verdicts-length, counts-length, verdict-held, count_held}
use Rattle.runs.proofs.RejectedVerdicts.{few-reject-none}
use Rattle.verdicts.specs.Verdicts.{rejected_count}
use Rattle.verdicts.proofs.Counted.{count-answered}
use Rattle.trial.specs.Aside.{live_offers, live_mask}
use Rattle.trial.specs.Designs.{untested}
use Rattle.trial.specs.Exchange.{figures_at, row_total}
use Rattle.trial.specs.declared.Trial.{Trial}
use Rattle.trial.proofs.Aside.{live-columns}
use Rattle.trialrun.specs.TrialRuns.{trial_start}
use Rattle.trialrun.proofs.Aside.{aside-verdict, aside-count, few-none, few-told}
use Rattle.text.specs.Ascii.{ascii}
use Rattle.text.specs.Text.{printed, decimal, line}
use Rattle.rendering.specs.Reports.{code_at, offer_line, decision_at, offer_line_at}

module _ (t : Trial) (X : List (List Float)) (i : ℕ) (h : i < t.shape.offers) where
  abbrev run : Outcome
  run = full_run X (trial_start t)

  verdict-is : (v : Verdict) → get_or (full_run X (trial_start t)).verdicts i (Rejected 0 nan) ≡ v → decision_at (accepted_run (full_run X (trial_start t))) i ≡ v
  verdict-is v e = verdict-held run i (omega (arith, verdicts-length X (trial_start t))) (Rejected 0 nan) ∙ e

  count-is : get_or (accepted_run (full_run X (trial_start t))).counts i 0 ≡ get_or (full_run X (trial_start t)).counts i 0
  count-is = count_held run i (omega (arith, counts-length X (trial_start t)))

  pub aside-line : T (untested t.shape.design (figures_at t i))
      → offer_line_at t.labels (accepted_run (full_run X (trial_start t))) i ≡ line (printed (get_or t.labels.digits i 0) (get_or t.labels.codes i 0)) (ascii "aside" ∷ decimal 0 ∷ decimal 0 ∷ [])
  aside-line q = ap₂ (λ (v : Verdict) (n : ℕ). offer_line (code_at t.labels i) v (accepted_run run).steps n)
      (verdict-is Aside (aside-verdict t X i h q (Rejected 0 nan))) (count-is ∙ aside-count t X i h q)

  pub few-line : untested t.shape.design (figures_at t i) ≡ false → size (live_offers t) < t.shape.k
      → offer_line_at t.labels (accepted_run (full_run X (trial_start t))) i ≡ line (printed (get_or t.labels.digits i 0) (get_or t.labels.codes i 0)) (ascii "kept" ∷ decimal 0 ∷ decimal (get_or (full_run X (trial_start t)).counts i 0) ∷ [])
  unfolding accepted_run
  few-line q few =
      ap₂ (λ (v : Verdict) (n : ℕ). offer_line (code_at t.labels i) v (accepted_run run).steps n) (verdict-is (Kept plus_zero) (few-told t X i h q few (Rejected 0 nan))) count-is
      ∙ ap (λ (rs : List Record). offer_line (code_at t.labels i) (Kept plus_zero) (length rs) (get_or run.counts i 0)) (few-none t X few)

pub few-end : (t : Trial) (X : List (List Float)) → size (live_offers t) < t.shape.k → rejected_count t.shape.offers (accepted_run (full_run X (trial_start t))).verdicts ≡ 0
few-end t X few =
    count-answered t.shape.offers (full_run X (trial_start t)) (verdicts-length X (trial_start t))
    ∙ few-reject-none X (row_total t) t.shape.offers t.shape.k (allowance (row_total t) t.level.a t.level.b) 0 (live_mask t) (omega (arith, ap size (live-columns t)))
