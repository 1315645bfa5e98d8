-- Laws of the first member that passes a test.
--   first_passes, first-before     it passes, and none before it does
--   first-le, first-none           its place is at most the number of members; where there is none no member passes
--   first-same, first-map          by another test that tells the same, and of a mapped list
--   first-hit, first_on, first-skip, first_out     a search from the front: it finds the member, goes on by one or by a block, or finds none
use Prim.Native.Nat.{ℕ, zero, suc, ◌+◌, ◌-◌, ◌≤◌, ◌<◌}
use native.Mathlib.Omega.{arith}
use native.Mathlib.Numerals.{add-one}
use mathlib.Core.Path.{◌≡◌, refl, sym, ap, ap₂, ◌∙◌}
use mathlib.Core.Bool.{Bool, true, false, not, cond, ◌&&◌}
use mathlib.Core.List.{List, [], ◌∷◌, ◌++◌, map}
use lib.ListN.{length, get_or, take, drop, length-drop, take-append-drop}
use lib.Seq.{drop-drop, length-take-le}
use lib.Dec.{T, ltb}
use borrow.Author.Tests.{ltb-false}
use Rattle.order.specs.Counting.{count, all}
use Rattle.order.specs.Lists.{first_at}
use Rattle.order.proofs.Counts.{none-counted}
use Rattle.order.proofs.Booleans.{true-T, and_left, and_right}

module _ {A : Type 0} where
  -- none of the first members passes
  first_past : (p : A → Bool) (xs ys : List A) → T (all (λ x. not (p x)) xs) → first_at p (xs ++ ys) ≡ length xs + first_at p ys
  unfolding first_at all
  first_past p [] ys t = omega arith
  first_past p (x ∷ xs) ys t = go (p x) (and_left (not (p x)) (all (λ x. not (p x)) xs) t) (first_past p xs ys (and_right (not (p x)) (all (λ x. not (p x)) xs) t))
    where
      go : (b : Bool) → T (not b) → first_at p (xs ++ ys) ≡ length xs + first_at p ys → cond b 0 (suc (first_at p (xs ++ ys))) ≡ suc (length xs) + first_at p ys
      go true u ih = absurd u
      go false u ih = omega arith

  pub first-le : (p : A → Bool) (xs : List A) → first_at p xs ≤ length xs
  unfolding first_at
  first-le p [] = omega arith
  first-le p (x ∷ xs) = go (p x) (first-le p xs)
    where
      go : (b : Bool) → first_at p xs ≤ length xs → cond b 0 (suc (first_at p xs)) ≤ suc (length xs)
      go true h = omega arith
      go false h = omega arith

  pub first_passes : (p : A → Bool) (xs : List A) (d : A) → first_at p xs < length xs → T (p (get_or xs (first_at p xs) d))
  unfolding first_at
  first_passes p [] d h = absurd (omega arith)
  first_passes p (x ∷ xs) d h = go (p x) refl (first_passes p xs d) h
    where
      go : (b : Bool) → p x ≡ b → (first_at p xs < length xs → T (p (get_or xs (first_at p xs) d))) → cond b 0 (suc (first_at p xs)) < suc (length xs) → T (p (get_or (x ∷ xs) (cond b 0 (suc (first_at p xs))) d))
      go true e ih h = true-T (p x) e
      go false e ih h = ih (omega arith)

  pub first-before : (p : A → Bool) (xs : List A) (d : A) (i : ℕ) → i < first_at p xs → p (get_or xs i d) ≡ false
  unfolding first_at
  first-before p [] d i h = absurd (omega arith)
  first-before p (x ∷ xs) d i h = go (p x) refl i (first-before p xs d) h
    where
      go : (b : Bool) → p x ≡ b → (i : ℕ) → ((i : ℕ) → i < first_at p xs → p (get_or xs i d) ≡ false) → i < cond b 0 (suc (first_at p xs)) → p (get_or (x ∷ xs) i d) ≡ false
      go true e i ih h = absurd (omega arith)
      go false e zero ih h = e
      go false e (suc i) ih h = ih i (omega arith)

  pub first-none : (p : A → Bool) (xs : List A) → (first_at p xs < length xs → ⊥) → T (all (λ x. not (p x)) xs)
  unfolding first_at all
  first-none p [] f = tt
  first-none p (x ∷ xs) f = go (p x) (first-none p xs) f
    where
      go : (b : Bool) → ((first_at p xs < length xs → ⊥) → T (all (λ x. not (p x)) xs)) → (cond b 0 (suc (first_at p xs)) < suc (length xs) → ⊥) → T (not b && all (λ x. not (p x)) xs)
      go true ih f = absurd (f (omega arith))
      go false ih f = ih (λ h. f (omega arith))

  pub first-same : (r p q : A → Bool) (xs : List A) → ((x : A) → T (r x) → p x ≡ q x) → T (all r xs) → first_at p xs ≡ first_at q xs
  unfolding first_at all
  first-same r p q [] h t = refl
  first-same r p q (x ∷ xs) h t = ap₂ (λ (b : Bool) (n : ℕ). cond b 0 (suc n)) (h x (and_left (r x) (all r xs) t)) (first-same r p q xs h (and_right (r x) (all r xs) t))

  -- ---- a search from the front: i and the place from there on is the place

  drop-first : (p : A → Bool) (xs : List A) (d : A) (i : ℕ) → i < length xs → first_at p (drop i xs) ≡ cond (p (get_or xs i d)) 0 (suc (first_at p (drop (suc i) xs)))
  unfolding first_at
  drop-first p [] d i h = absurd (omega arith)
  drop-first p (x ∷ xs) d zero h = refl
  drop-first p (x ∷ xs) d (suc i) h = drop-first p xs d i (omega arith)

  module _ (p : A → Bool) (xs : List A) (d : A) where
    here : (i : ℕ) → i < length xs → first_at p (drop i xs) ≡ cond (p (get_or xs i d)) 0 (suc (first_at p (drop (i + 1) xs)))
    here i h = drop-first p xs d i h ∙ ap (λ (n : ℕ). cond (p (get_or xs i d)) 0 (suc (first_at p (drop n xs)))) (sym (add-one i))

    pub first-hit : (i : ℕ) → i < length xs → p (get_or xs i d) ≡ true → first_at p xs ≡ i + first_at p (drop i xs) → i ≡ first_at p xs
    first-hit i h e q = omega (arith, q, here i h, ap (λ (b : Bool). cond b 0 (suc (first_at p (drop (i + 1) xs)))) e)

    pub first_on : (i : ℕ) → i < length xs → p (get_or xs i d) ≡ false → first_at p xs ≡ i + first_at p (drop i xs) → first_at p xs ≡ (i + 1) + first_at p (drop (i + 1) xs)
    first_on i h e q = omega (arith, q, here i h, ap (λ (b : Bool). cond b 0 (suc (first_at p (drop (i + 1) xs)))) e)

    -- a block of n none of which passes
    pub first-skip : (i n j : ℕ) → j ≡ i + n → j ≤ length xs → ltb 0 (count p (take (j - i) (drop i xs))) ≡ false → first_at p xs ≡ i + first_at p (drop i xs) → first_at p xs ≡ j + first_at p (drop j xs)
    first-skip i n j e h z q =
        let ys = take (j - i) (drop i xs) in
        let none = none-counted p ys (let l = ltb-false 0 (count p ys) z in omega (arith, l)) in
        let whole : first_at p (drop i xs) ≡ length ys + first_at p (drop (j - i) (drop i xs)) = ap (first_at p) (sym (take-append-drop (j - i) (drop i xs))) ∙ first_past p ys (drop (j - i) (drop i xs)) none in
        let rest : first_at p (drop (j - i) (drop i xs)) ≡ first_at p (drop j xs) = ap (first_at p) (drop-drop (j - i) i xs ∙ ap (λ (m : ℕ). drop m xs) (let s : i + (j - i) ≡ j = omega arith in s)) in
        omega (arith, q, whole, rest, length-take-le (j - i) (drop i xs) (simp length-drop (omega arith)))

    pub first_out : (i : ℕ) → length xs ≤ i → i ≤ length xs → first_at p xs ≡ i + first_at p (drop i xs) → i ≡ first_at p xs
    first_out i h g q = omega (arith, q, first-le p (drop i xs), length-drop i xs)

pub first-map : {A B : Type 0} (f : A → B) (p : B → Bool) (xs : List A) → first_at p (map f xs) ≡ first_at (λ x. p (f x)) xs
unfolding first_at
first-map f p [] = refl
first-map f p (x ∷ xs) = ap (λ (n : ℕ). cond (p (f x)) 0 (suc n)) (first-map f p xs)
