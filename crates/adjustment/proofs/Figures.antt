-- Adjusted figures, where k or more columns are live and where fewer are.
--   least-most, least-law, least-is     the least number below n that passes a test which holds on from where it first holds
--   rejected-set      where k or more are live, the method at e rejects by its rejected set
--   rejected-few      where fewer are, it rejects none
--   stays-rejected    loosening: a column that is rejected at e is rejected at every larger one
--   figure-law        a column's figure is at most e exactly where the method rejects it at e
--   figure-most       it is at most M
--   figure-is         a number of at most M with that law is the figure
--   figure-aside      the figure of a column that is not live is M
--   figures-length, figures-at     there is a figure for each column
--   figures-few       where fewer than k are live every figure is M
use Prim.Native.Nat.{ℕ, zero, suc, ◌≤◌, ◌<◌}
use native.Mathlib.Omega.{arith}
use native.Mathlib.Decide.{dec_le}
use mathlib.Core.Path.{◌≡◌, refl, sym, ap, ◌∙◌, subst}
use mathlib.Core.Logic.{◌↔◌}
use mathlib.Core.Bool.{Bool, true, false, cond}
use mathlib.Core.List.{List, ◌∷◌}
use lib.ListN.{length, get_or, replicate}
use lib.Dec.{T}
use lib.Ieee.{Float}
use Rattle.order.specs.Order.{plus_zero}
use Rattle.order.specs.Lists.{tabulate}
use Rattle.order.proofs.Booleans.{never, true-T, not-below}
use Rattle.order.proofs.Lists.{tabulate-length, tabulate-get_d, tabulate-same}
use Rattle.order.proofs.Rows.{Sound}
use Rattle.columns.specs.Columns.{size, in_set, columns_of}
use Rattle.columns.proofs.Sets.{has, ⊆-at}
use Rattle.columns.proofs.Masks.{columns_of-length}
use Rattle.runs.specs.Stepdown.{first_state}
use Rattle.runs.specs.FullRuns.{is_rejected}
use Rattle.runs.specs.declared.Verdict.TheVariants.{Kept}
use Rattle.runs.proofs.ToldColumns.{verdict-aside}
use Rattle.runs.proofs.RejectedSets.{rejected_set_at}
use Rattle.runs.proofs.RejectedVerdicts.{verdict-at, too-few-none}
use Rattle.runs.proofs.Loosening.{loosening}
use Rattle.adjustment.specs.Adjusted.{least_below, rejected_at, adjusted_figure, adjusted_figures}

-- ---- the least number that passes

pub least-most : (n : ℕ) (p : ℕ → Bool) → least_below n p ≤ n
unfolding least_below
least-most zero p = omega arith
least-most (suc n) p = go (p 0) (least-most n (λ i. p (suc i)))
  where
    go : (b : Bool) → least_below n (λ i. p (suc i)) ≤ n → cond b 0 (suc (least_below n (λ i. p (suc i)))) ≤ suc n
    go true h = omega arith
    go false h = omega arith

pub least-law : (n : ℕ) (p : ℕ → Bool) → ((i h : ℕ) → i ≤ h → h < n → T (p i) → T (p h)) → (i : ℕ) → i < n → (least_below n p ≤ i) ↔ T (p i)
unfolding least_below
least-law zero p on i l = absurd (omega arith)
least-law (suc n) p on i l = go (p 0) refl i l (least-law n (λ i. p (suc i)) (λ i h q r. on (suc i) (suc h) (omega arith) (omega arith)))
  where
    go : (b : Bool) → p 0 ≡ b → (i : ℕ) → i < suc n → ((i : ℕ) → i < n → (least_below n (λ i. p (suc i)) ≤ i) ↔ T (p (suc i))) → (cond b 0 (suc (least_below n (λ i. p (suc i)))) ≤ i) ↔ T (p i)
    go true q i l ih = (λ _. on 0 i (omega arith) l (true-T (p 0) q), λ _. omega arith)
    go false q zero l ih = (λ h. absurd (omega arith), λ t. absurd (never (p 0) q t))
    go false q (suc i) l ih = (λ h. (ih i (omega arith)).0 (omega arith), λ t. omega (arith, (ih i (omega arith)).1 t))

-- whatever has the law is the least number
pub least-is : (n f : ℕ) (p : ℕ → Bool) → f ≤ n → ((i : ℕ) → i < n → (f ≤ i) ↔ T (p i)) → least_below n p ≡ f
least-is n f p most law =
    omega (
      arith,
      not-below (least_below n p) f (λ g. omega (arith, (law (least_below n p) (omega arith)).1 ((own (least_below n p) (omega arith)).0 (omega arith)))),
      not-below f (least_below n p) (λ g. let l : f < n = omega (arith, least-most n p) in omega (arith, (own f l).1 ((law f l).0 (omega arith)))),
    )
  where
    own : (i : ℕ) → i < n → (least_below n p ≤ i) ↔ T (p i)
    own = least-law n p (λ i h q l t. (law h l).0 (omega (arith, (law i (omega arith)).1 t)))

-- ---- a column's figure

module _ (X : List (List Float)) (rows columns k observed live j : ℕ) where
  pub figure-most : adjusted_figure X rows columns k observed live j ≤ rows
  unfolding adjusted_figure
  figure-most = least-most rows (λ e. rejected_at X rows columns k observed live e j)

  pub figure-is : (f : ℕ) → f ≤ rows → ((e : ℕ) → e < rows → (f ≤ e) ↔ T (rejected_at X rows columns k observed live e j)) → adjusted_figure X rows columns k observed live j ≡ f
  unfolding adjusted_figure
  figure-is f most law = least-is rows f (λ e. rejected_at X rows columns k observed live e j) most law

  module _ (h : j < columns) where
    pub rejected-few : size (columns_of columns live) < k → (e : ℕ) → rejected_at X rows columns k observed live e j ≡ false
    unfolding rejected_at
    rejected-few few e = too-few-none X rows columns k e observed live j h few

    rejected-aside : in_set live j ≡ false → (e : ℕ) → rejected_at X rows columns k observed live e j ≡ false
    unfolding rejected_at
    rejected-aside q e = ap is_rejected (verdict-aside X (first_state rows columns k e observed live) j h (Kept plus_zero) q)

    -- a column that is rejected at no e
    figure-never : ((e : ℕ) → rejected_at X rows columns k observed live e j ≡ false) → adjusted_figure X rows columns k observed live j ≡ rows
    figure-never none = figure-is rows (omega arith) (λ e l. (λ q. absurd (omega arith), λ t. absurd (never (rejected_at X rows columns k observed live e j) (none e) t)))

    pub figure-aside : in_set live j ≡ false → adjusted_figure X rows columns k observed live j ≡ rows
    figure-aside q = figure-never (rejected-aside q)

    figure-few : size (columns_of columns live) < k → adjusted_figure X rows columns k observed live j ≡ rows
    figure-few few = figure-never (rejected-few few)

    module _ (sound : Sound columns X) (tall : rows ≡ length X) (seen : observed < rows) (narrow : columns ≤ 32) (pos : 0 < k) where
      pub rejected-set : k ≤ size (columns_of columns live) → (e : ℕ) → rejected_at X rows columns k observed live e j ≡ has (rejected_set_at k e X (columns_of columns live) observed) j
      unfolding rejected_at
      rejected-set held e = verdict-at X rows columns k e observed live j h sound (omega arith) held

      pub stays-rejected : (e e' : ℕ) → e ≤ e' → e' < rows → T (rejected_at X rows columns k observed live e j) → T (rejected_at X rows columns k observed live e' j)
      stays-rejected e e' lower rare t = go (dec_le k (size (columns_of columns live)))
        where
          go : Dec (k ≤ size (columns_of columns live)) → T (rejected_at X rows columns k observed live e' j)
          go (yes held) = subst (λ (b : Bool). T b) (sym (rejected-set held e'))
              (⊆-at (loosening k e e' X (columns_of columns live) observed (subst (λ (n : ℕ). Sound n X) (sym (columns_of-length columns live)) sound) (omega arith) (omega (arith, columns_of-length columns live))
              pos held lower (omega arith)) j (subst (λ (b : Bool). T b) (rejected-set held e) t))
          go (no f) = absurd (never (rejected_at X rows columns k observed live e j) (rejected-few (omega (arith, f)) e) t)

      pub figure-law : (e : ℕ) → e < rows → (adjusted_figure X rows columns k observed live j ≤ e) ↔ T (rejected_at X rows columns k observed live e j)
      unfolding adjusted_figure
      figure-law e rare = least-law rows (λ e. rejected_at X rows columns k observed live e j) stays-rejected e rare

-- ---- all columns

tabulate-const : (n x : ℕ) → tabulate n (λ _. x) ≡ replicate n x
unfolding tabulate
tabulate-const zero x = refl
tabulate-const (suc n) x = ap (λ (l : List ℕ). x ∷ l) (tabulate-const n x)

module _ (X : List (List Float)) (rows columns k observed live : ℕ) where
  pub figures-length : length (adjusted_figures X rows columns k observed live) ≡ columns
  unfolding adjusted_figures
  figures-length = tabulate-length columns (λ j. adjusted_figure X rows columns k observed live j)

  pub figures-at : (j : ℕ) → j < columns → get_or (adjusted_figures X rows columns k observed live) j 0 ≡ adjusted_figure X rows columns k observed live j
  unfolding adjusted_figures
  figures-at j h = tabulate-get_d columns (λ j. adjusted_figure X rows columns k observed live j) j 0 h

pub figures-few : (X : List (List Float)) (rows columns k observed live : ℕ) → size (columns_of columns live) < k → adjusted_figures X rows columns k observed live ≡ replicate columns rows
unfolding adjusted_figures
figures-few X rows columns k observed live few =
    tabulate-same columns (λ j. adjusted_figure X rows columns k observed live j) (λ _. rows) (λ j h. figure-few X rows columns k observed live j h few) ∙ tabulate-const columns rows
