-- A test over a slice, from an index on.
use Prim.Native.Nat.{ℕ, ◌+◌, ◌≤◌, ◌<◌}
use native.Mathlib.Numerals.{add-one}
use native.Mathlib.Omega.{arith}
use mathlib.Core.Path.{◌≡◌, refl, ap, ◌∙◌}
use mathlib.Core.Bool.{Bool, true, false, ◌&&◌}
use mathlib.Core.List.{List, [], ◌∷◌}
use lib.ListN.{length, get_or, take, drop, drop_of_length-le, length-take}
use lib.Seq.{drop-cons, take-suc, take_all}
use Rattle.std.proofs.lemmas.Grind.{common_steps}
use Rattle.order.specs.Counting.{all, count, bit}
use Rattle.order.proofs.Counts.{count-append, count-length}

module _ {A : Type 0} (p : A → Bool) (xs : List A) (i : ℕ) (d : A) where
  all_more : i < length xs → all p (drop i xs) ≡ (p (get_or xs i d) && all p (drop (i + 1) xs))
  unfolding all
  all_more h = rw (add-one, drop-cons xs i d)

  pub all-turn : i < length xs → p (get_or xs i d) ≡ true → all p (drop i xs) ≡ all p (drop (i + 1) xs)
  all-turn h e = all_more h ∙ ap (λ (b : Bool). b && all p (drop (i + 1) xs)) e

  pub all-out : i < length xs → p (get_or xs i d) ≡ false → all p (drop i xs) ≡ false
  all-out h e = all_more h ∙ ap (λ (b : Bool). b && all p (drop (i + 1) xs)) e

  pub all_end : length xs ≤ i → all p (drop i xs) ≡ true
  unfolding all
  all_end h = rw drop_of_length-le

  -- counts

  count-more : i < length xs → count p (drop i xs) ≡ bit (p (get_or xs i d)) + count p (drop (i + 1) xs)
  unfolding count
  count-more h = rw (add-one, drop-cons xs i d)

  count-in : i < length xs → p (get_or xs i d) ≡ true → count p (drop i xs) ≡ 1 + count p (drop (i + 1) xs)
  count-in h e = count-more h ∙ ap (λ (b : Bool). bit b + count p (drop (i + 1) xs)) e

  count_past : i < length xs → p (get_or xs i d) ≡ false → count p (drop i xs) ≡ 0 + count p (drop (i + 1) xs)
  count_past h e = count-more h ∙ ap (λ (b : Bool). bit b + count p (drop (i + 1) xs)) e

  count-end : length xs ≤ i → count p (drop i xs) ≡ 0
  unfolding count
  count-end h = rw drop_of_length-le

  -- a count, and what is still to be counted, from one turn of a loop to the next

  pub counted-in : (m n t : ℕ) → i < length xs → p (get_or xs i d) ≡ true → m ≡ n + 1 → n + count p (drop i xs) ≡ t → m + count p (drop (i + 1) xs) ≡ t
  counted-in m n t h e f g = omega (arith, count-in h e)

  pub counted-past : (m n t : ℕ) → i < length xs → p (get_or xs i d) ≡ false → m ≡ n → n + count p (drop i xs) ≡ t → m + count p (drop (i + 1) xs) ≡ t
  counted-past m n t h e f g = omega (arith, count_past h e)

  pub counted-all : (n t : ℕ) → length xs ≤ i → n + count p (drop i xs) ≡ t → n ≡ t
  counted-all n t h g = omega (arith, count-end h)

-- a count as far as a loop has come: one member more, never more than there are, and all of them in the end
module _ {A : Type 0} where
  pub count-next : (p : A → Bool) (xs : List A) (i : ℕ) (d : A) → i < length xs → count p (take (i + 1) xs) ≡ count p (take i xs) + bit (p (get_or xs i d))
  unfolding count
  count-next p xs i d h = rw (add-one, take-suc xs i d h) (count-append p (take i xs) (get_or xs i d ∷ []) ∙ omega arith)

  pub count-front : (p : A → Bool) (xs : List A) (i : ℕ) → count p (take i xs) ≤ i
  count-front p xs i = omega (arith, count-length p (take i xs), length-take i xs)

  pub count-whole : (p : A → Bool) (xs : List A) (i : ℕ) → length xs ≤ i → count p (take i xs) ≡ count p xs
  count-whole p xs i h = ap (count p) (take_all i xs h)

  pub count-none : (p : A → Bool) → count p [] ≡ 0
  unfolding count
  count-none p = refl

pub ruleset counts = (count-none, count-next, count-front, count-whole, common_steps)
