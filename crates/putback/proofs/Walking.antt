-- The walk's cases, by the best of the sets of a branch.
--   leaf-value, none-value, past_value, in-value     nothing left to choose, or to choose from; the next column is not among the rejected ones; it is
--   past-at, in-at       what holds of the next branches
use Prim.Native.Nat.{ℕ, ◌%◌, ◌<◌}
use native.Mathlib.Omega.{arith}
use mathlib.Core.Path.{◌≡◌, sym, ap, ap₂, ◌∙◌, subst}
use mathlib.Core.List.{[], ◌∷◌}
use lib.Ieee.{Float}
use Rattle.columns.specs.Columns.{Columns, columns_of}
use Rattle.putback.specs.Internal.{better, sets_of, with, without, At}
use Rattle.putback.specs.declared.walk.Best.{Best}
use Rattle.putback.specs.declared.branch.Branch.{Branch}
use Rattle.putback.proofs.Better.{better-append}
use Rattle.putback.proofs.Branches.{sets-leaf, sets-none, sets-past, sets-in, next_fits, chosen_is, rest-falls, at_with, at-without}

module _ (f : Columns → Float) (cols k : ℕ) (b : Branch) (a : At cols k b) (h : Best) where
  pub leaf-value : (r : Best) → b.left ≡ 0 → r ≡ better f h (columns_of cols b.set ∷ []) → r ≡ better f h (sets_of cols b)
  leaf-value r z q = q ∙ ap (better f h) (sym (sets-leaf cols b a.walk.place z))

  pub none-value : (b.left ≡ 0 → ⊥) → b.rest ≡ 0 → h ≡ better f h (sets_of cols b)
  unfolding better
  none-value g z = ap (better f h) (sym (sets-none cols b g z))

  module _ (g : b.left ≡ 0 → ⊥) (some : b.rest ≡ 0 → ⊥) (p : Branch) (past : p ≡ without b) where
    pub past_value : (r : Best) → b.rest % 2 ≡ 0 → r ≡ better f h (sets_of cols p) → r ≡ better f h (sets_of cols b)
    past_value r e q = q ∙ ap (λ (x : Branch). better f h (sets_of cols x)) past ∙ ap (better f h) (sets-past cols b (next_fits a some) g (λ o. omega arith))

    pub in-value : (c : Branch) (r s : Best) → c ≡ with b → b.rest % 2 ≡ 1 → s ≡ better f h (sets_of cols c) → r ≡ better f s (sets_of cols p) → r ≡ better f h (sets_of cols b)
    in-value c r s chosen e u q =
        q ∙ ap₂ (λ (x : Best) (y : Branch). better f x (sets_of cols y)) (u ∙ ap (λ (y : Branch). better f h (sets_of cols y)) chosen) past ∙ sym (better-append f h (sets_of cols (with b)) (sets_of cols (without b)))
        ∙ ap (better f h) (sets-in cols b (next_fits a some) g e (chosen_is a some e))

-- what holds of the next branches
module _ {cols k : ℕ} {b : Branch} (a : At cols k b) (some : b.rest ≡ 0 → ⊥) {t : ℕ} (e : b.rest ≡ t) where
  pub past-at : (p : Branch) → p ≡ without b → (p.rest < t) × At cols k p
  past-at p q = subst (λ (x : Branch). (x.rest < t) × At cols k x) (sym q) (rest-falls a some e, at-without a some)

  pub in-at : (b.left ≡ 0 → ⊥) → b.rest % 2 ≡ 1 → (c : Branch) → c ≡ with b → (c.rest < t) × At cols k c
  in-at g o c q = subst (λ (x : Branch). (x.rest < t) × At cols k x) (sym q) (rest-falls a some e, at_with a some o g)

-- a number is odd that is not even
pub odd-one : (n : ℕ) → (n % 2 ≡ 0 → ⊥) → n % 2 ≡ 1
odd-one n h = omega (arith, h)
