-- The members of a list that pass a test.
--   those-more      with one member more at the end
--   those-length    how many there are
--   those-all       what holds of all members holds of them
--   those-every     all members pass
--   those-map       of a mapped list
--   those-narrow    those that pass a narrower test, out of those that pass a wider one
use Prim.Native.Nat.{◌+◌}
use native.Mathlib.Omega.{arith}
use mathlib.Core.Path.{◌≡◌, refl, ap, ◌∙◌}
use mathlib.Core.Bool.{Bool, true, false, cond}
use mathlib.Core.List.{List, [], ◌∷◌, ◌++◌, map}
use lib.ListN.{length}
use lib.Dec.{T}
use Rattle.order.specs.Counting.{bit, count, all}
use Rattle.order.proofs.Booleans.{and_left, and_right, and_both, true-T, never}
use Rattle.masks.specs.Marks.{those}

pub those-more : {A : Type 0} (p : A → Bool) (s : List A) (x : A) → those p (s ++ (x ∷ [])) ≡ those p s ++ cond (p x) (x ∷ []) []
unfolding those
those-more p [] x = refl
those-more p (y ∷ s) x = go (p y) (those-more p s x)
  where
    go : (b : Bool) → those p (s ++ (x ∷ [])) ≡ those p s ++ cond (p x) (x ∷ []) []
        → cond b (y ∷ those p (s ++ (x ∷ []))) (those p (s ++ (x ∷ []))) ≡ cond b (y ∷ those p s) (those p s) ++ cond (p x) (x ∷ []) []
    go true e = ap (λ l. y ∷ l) e
    go false e = e

pub those-length : {A : Type 0} (p : A → Bool) (xs : List A) → length (those p xs) ≡ count p xs
unfolding those count
those-length p [] = refl
those-length p (x ∷ xs) = go (p x) (those-length p xs)
  where
    go : (b : Bool) → length (those p xs) ≡ count p xs → length (cond b (x ∷ those p xs) (those p xs)) ≡ bit b + count p xs
    go true e = omega (arith, e)
    go false e = omega (arith, e)

pub those-all : {A : Type 0} (p r : A → Bool) (xs : List A) → T (all r xs) → T (all r (those p xs))
unfolding those all
those-all p r [] t = tt
those-all p r (x ∷ xs) t = go (p x) (and_left (r x) (all r xs) t) (those-all p r xs (and_right (r x) (all r xs) t))
  where
    go : (b : Bool) → T (r x) → T (all r (those p xs)) → T (all r (cond b (x ∷ those p xs) (those p xs)))
    go true s u = and_both (r x) (all r (those p xs)) s u
    go false s u = u

pub those-every : {A : Type 0} (p : A → Bool) (xs : List A) → T (all p xs) → those p xs ≡ xs
unfolding those all
those-every p [] t = refl
those-every p (x ∷ xs) t = go (p x) (and_left (p x) (all p xs) t) (those-every p xs (and_right (p x) (all p xs) t))
  where
    go : (b : Bool) → T b → those p xs ≡ xs → cond b (x ∷ those p xs) (those p xs) ≡ x ∷ xs
    go true u e = ap (λ l. x ∷ l) e
    go false u e = absurd u

pub those-map : {A B : Type 0} (f : A → B) (q : B → Bool) (xs : List A) → those q (map f xs) ≡ map f (those (λ x. q (f x)) xs)
unfolding those
those-map f q [] = refl
those-map f q (x ∷ xs) = go (q (f x)) (those-map f q xs)
  where
    go : (b : Bool) → those q (map f xs) ≡ map f (those (λ x. q (f x)) xs) → cond b (f x ∷ those q (map f xs)) (those q (map f xs)) ≡ map f (cond b (x ∷ those (λ x. q (f x)) xs) (those (λ x. q (f x)) xs))
    go true e = ap (λ l. f x ∷ l) e
    go false e = e

pub those-narrow : {A : Type 0} (r p q : A → Bool) (xs : List A) → ((x : A) → T (r x) → T (q x) → T (p x)) → T (all r xs) → those q (those p xs) ≡ those q xs
unfolding those all
those-narrow r p q [] h t = refl
those-narrow r p q (x ∷ xs) h t = go (p x) (q x) refl refl (those-narrow r p q xs h (and_right (r x) (all r xs) t))
  where
    go : (b c : Bool) → p x ≡ b → q x ≡ c → those q (those p xs) ≡ those q xs → those q (cond b (x ∷ those p xs) (those p xs)) ≡ cond c (x ∷ those q xs) (those q xs)
    go true true e f ih = ap (λ (d : Bool). cond d (x ∷ those q (those p xs)) (those q (those p xs))) f ∙ ap (λ l. x ∷ l) ih
    go true false e f ih = ap (λ (d : Bool). cond d (x ∷ those q (those p xs)) (those q (those p xs))) f ∙ ih
    go false true e f ih = absurd (never (p x) e (h x (and_left (r x) (all r xs) t) (true-T (q x) f)))
    go false false e f ih = ih
