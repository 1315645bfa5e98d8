-- What an accepted trial is known to be.
--   Accepted, accepted     what is known of a trial that nothing is turned away for
--   accepted_ok            the same, by the answer of its checks
use Prim.Native.Nat.{ℕ, zero, suc, ◌≤◌, ◌<◌}
use native.Mathlib.Omega.{arith}
use mathlib.Core.Path.{◌≡◌, sym, subst}
use mathlib.Core.Bool.{Bool, false, not}
use mathlib.Core.List.{List, [], ◌∷◌, ◌++◌}
use lib.ListN.{length, length-take}
use lib.Dec.{T}
use lib.IntN.{ℤ, pos}
use Rattle.std.proofs.Common.{Ok}
use Rattle.limits.specs.Limits.{offers_most, tolerance_most}
use Rattle.order.specs.Counting.{all}
use Rattle.order.proofs.Booleans.{and_both}
use Rattle.refusals.specs.Answers.{r3, places_from, outcome}
use Rattle.refusals.specs.Limits.{bad_columns, bad_level}
use Rattle.refusals.proofs.Answers.{NoneHolds, none-holds, none_first, none-append, ok-none}
use Rattle.refusals.proofs.Places.{places-each}
use Rattle.refusals.proofs.Limits.{fitting, Level, level}
use Rattle.trial.specs.Designs.{design_checks}
use Rattle.trial.specs.Record.{figure_count, setting_of, figures_of}
use Rattle.trial.specs.Refusals.{bad_difference, heading_checks, offer_checks, figure_checks, nth, content_checks, trial_checks, trial_refusal}
use Rattle.trial.specs.declared.Trial.{Trial}
use Rattle.trial.proofs.Sums.{InRange}
use Rattle.trial.proofs.LaidOut.{LaidOut, laid_out}

figures-in : (xs : List ℤ) (n : ℕ) → length xs ≤ n → ((i : ℕ) → i < n → NoneHolds (figure_checks (nth xs (pos 0)) i)) → InRange xs
unfolding all
figures-in [] n l h = tt
figures-in (x ∷ xs) zero l h = absurd (omega arith)
figures-in (x ∷ xs) (suc n) l h =
    and_both (not (bad_difference x)) (all (λ d. not (bad_difference d)) xs) (subst (λ (b : Bool). T (not b)) (sym (h 0 (omega arith)).0) tt)
    (figures-in xs n (omega arith) (λ i k. h (suc i) (omega arith)))

-- ---- what is known

pub record Accepted (t : Trial) : Type 0 where
  pub counts-good : bad_columns offers_most t.shape.offers t.shape.k ≡ false
  pub layout-good : NoneHolds (design_checks t.shape.design)
  pub laid : LaidOut t.shape.design
  pub offers-some : 1 ≤ t.shape.offers
  pub offers-most : t.shape.offers ≤ offers_most
  pub k-some : 1 ≤ t.shape.k
  pub k-most : t.shape.k ≤ tolerance_most
  pub k-held : t.shape.k ≤ t.shape.offers
  pub level-good : bad_level t.level.a t.level.b ≡ false
  pub levelled : Level t.level.a t.level.b
  pub labels-pass : (i : ℕ) → i < t.shape.offers → NoneHolds (offer_checks (nth (setting_of t).codes 0) (nth (setting_of t).digits 0) i)
  pub figures-pass : (i : ℕ) → i < figure_count t.shape → NoneHolds (figure_checks (nth (figures_of t) (pos 0)) i)
  pub in-range : InRange (figures_of t)

pub accepted : (t : Trial) → trial_refusal t ≡ 0 → Accepted t
unfolding trial_refusal trial_checks content_checks heading_checks
accepted t h =
    let s = setting_of t in
    let offer = offer_checks (nth s.codes 0) (nth s.digits 0) in
    let figure = figure_checks (nth (figures_of t) (pos 0)) in
    let n = figure_count t.shape in
    let f = none-append (heading_checks t.level t.shape) (places_from offer 0 t.shape.offers ++ places_from figure 0 n) (none-holds (trial_checks t) h) in
    let g = none-append (places_from offer 0 t.shape.offers) (places_from figure 0 n) f.1 in
    let each = places-each figure n g.1 in
    let l = none-append (design_checks t.shape.design) ((bad_level t.level.a t.level.b, r3) ∷ []) f.0.1 in
    let c = fitting offers_most t.shape.offers t.shape.k f.0.0 in
    record {
      counts-good = f.0.0;
      layout-good = l.0;
      laid = laid_out t.shape.design l.0;
      offers-some = c.columns-some;
      offers-most = c.columns-most;
      k-some = c.k-some;
      k-most = c.k-most;
      k-held = c.k-held;
      level-good = l.1.0;
      levelled = level t.level.a t.level.b l.1.0;
      labels-pass = places-each offer t.shape.offers g.0;
      figures-pass = each;
      in-range = figures-in (figures_of t) n (simp length-take (omega arith)) each;
    }

pub accepted_ok : {A : Type 0} (t : Trial) (a : A) {x : A} → outcome (trial_checks t) a ≡ Ok x → Accepted t
unfolding trial_refusal
accepted_ok t a h = accepted t (none_first (trial_checks t) (ok-none (trial_checks t) a _ h))
