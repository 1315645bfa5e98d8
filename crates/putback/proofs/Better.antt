-- The best of some sets.
--   better-append       of two lists, one after the other
--   better-stays        no set of a list gives a larger value
--   better-taken        the next set gives a larger one
--   better-value        the value alone
use mathlib.Core.Path.{◌≡◌, refl, ap, ◌∙◌}
use mathlib.Core.Bool.{Bool, true, false, not, cond}
use mathlib.Core.List.{List, [], ◌∷◌, ◌++◌, map}
use lib.Dec.{T}
use lib.Ieee.{Float}
use Rattle.order.specs.Order.{smaller}
use Rattle.order.specs.Counting.{all}
use Rattle.order.proofs.Booleans.{and_left, and_right}
use Rattle.columns.specs.Columns.{Columns, mask_of}
use Rattle.putback.specs.Internal.{better, best_of}
use Rattle.putback.specs.declared.walk.Best.{Best}

module _ (f : Columns → Float) where
  -- with one set more
  abbrev next : Best → Columns → Best
  next b K = cond (smaller b.value (f K)) (record { value = f K; set = mask_of K }) b

  pub better-append : (b : Best) (Ks Ls : List Columns) → better f b (Ks ++ Ls) ≡ better f (better f b Ks) Ls
  unfolding better
  better-append b [] Ls = refl
  better-append b (K ∷ Ks) Ls = better-append (next b K) Ks Ls

  pub better-stays : (b : Best) (Ks : List Columns) → T (all (λ K. not (smaller b.value (f K))) Ks) → better f b Ks ≡ b
  unfolding better all
  better-stays b [] t = refl
  better-stays b (K ∷ Ks) t = ap (λ (c : Best). better f c Ks) (go (smaller b.value (f K)) (and_left (not (smaller b.value (f K))) (all (λ K. not (smaller b.value (f K))) Ks) t))
      ∙ better-stays b Ks (and_right (not (smaller b.value (f K))) (all (λ K. not (smaller b.value (f K))) Ks) t)
    where
      go : (d : Bool) → T (not d) → cond d (record { value = f K; set = mask_of K }) b ≡ b
      go true t = absurd t
      go false t = refl

  pub better-taken : (b : Best) (K : Columns) → smaller b.value (f K) ≡ true → better f b (K ∷ []) ≡ record { value = f K; set = mask_of K }
  unfolding better
  better-taken b K e = ap (λ (d : Bool). cond d (record { value = f K; set = mask_of K }) b) e

pub better-value : (f : Columns → Float) (b : Best) (Ks : List Columns) → (better f b Ks).value ≡ best_of b.value (map f Ks)
unfolding better best_of
better-value f b [] = refl
better-value f b (K ∷ Ks) = better-value f (next f b K) Ks ∙ ap (λ (v : Float). best_of v (map f Ks)) (go (smaller b.value (f K)))
  where
    go : (d : Bool) → (cond d (record { value = f K; set = mask_of K }) b).value ≡ cond d (f K) b.value
    go true = refl
    go false = refl
