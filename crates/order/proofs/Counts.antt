-- Laws of counting.
use Prim.Native.Nat.{ℕ, zero, suc, ◌+◌, ◌≤◌, ◌<◌}
use native.Mathlib.Omega.{arith}
use mathlib.Core.Path.{◌≡◌, refl, ap, ap₂, ◌∙◌}
use mathlib.Core.Bool.{Bool, true, false, not, ◌&&◌}
use mathlib.Core.List.{List, [], ◌∷◌, ◌++◌, map}
use lib.ListN.{length, get_or}
use lib.Dec.{T, eqb, eqb→eq}
use borrow.Author.Tests.{eq-eqb, ne_eqb}
use Rattle.order.specs.Counting.{bit, count, count_below, all}
use Rattle.order.proofs.Booleans.{same_test, true-T, and_left, and_right, and_both, not-below}

-- ---- numbers

one_more : (a b : ℕ) → eqb (1 + a) (suc b) ≡ eqb a b
one_more a b = same_test (eqb (1 + a) (suc b)) (eqb a b) (λ t. true-T (eqb a b) (eq-eqb a b (omega (arith, eqb→eq (1 + a) (suc b) t)))) (λ t. true-T (eqb (1 + a) (suc b)) (eq-eqb (1 + a) (suc b) (omega (arith, eqb→eq a b t))))

-- ---- bits

pub bit_le : (a b : Bool) → (T a → T b) → bit a ≤ bit b
bit_le true true f = omega arith
bit_le true false f = absurd (f tt)
bit_le false true f = omega arith
bit_le false false f = omega arith

pub bit-one : (b : Bool) → bit b ≤ 1
bit-one true = omega arith
bit-one false = omega arith

pub bit-yes : (b : Bool) → T b → bit b ≡ 1
bit-yes true t = refl
bit-yes false t = absurd t

pub bit-T : (b : Bool) → 0 < bit b → T b
bit-T true h = tt
bit-T false h = absurd (omega arith)

pub bit_not : (b : Bool) → bit b + bit (not b) ≡ 1
bit_not true = refl
bit_not false = refl

-- ---- members of a list

module _ {A : Type 0} where
  pub all-le : (p q : A → Bool) (l : List A) → ((x : A) → T (p x) → T (q x)) → T (all p l) → T (all q l)
  unfolding all
  all-le p q [] h t = tt
  all-le p q (x ∷ l) h t = and_both (q x) (all q l) (h x (and_left (p x) (all p l) t)) (all-le p q l h (and_right (p x) (all p l) t))

  pub all_append : (p : A → Bool) (s t : List A) → T (all p s) → T (all p t) → T (all p (s ++ t))
  unfolding all
  all_append p [] t a b = b
  all_append p (x ∷ s) t a b = and_both (p x) (all p (s ++ t)) (and_left (p x) (all p s) a) (all_append p s t (and_right (p x) (all p s) a) b)

  pub all_both : (p q : A → Bool) (l : List A) → T (all p l) → T (all q l) → T (all (λ x. p x && q x) l)
  unfolding all
  all_both p q [] s t = tt
  all_both p q (x ∷ l) s t =
      and_both (p x && q x) (all (λ x. p x && q x) l) (and_both (p x) (q x) (and_left (p x) (all p l) s) (and_left (q x) (all q l) t))
      (all_both p q l (and_right (p x) (all p l) s) (and_right (q x) (all q l) t))

  pub all_get_d : (p : A → Bool) (l : List A) (i : ℕ) (d : A) → i < length l → T (all p l) → T (p (get_or l i d))
  unfolding all
  all_get_d p [] i d h t = absurd (omega arith)
  all_get_d p (x ∷ l) zero d h t = and_left (p x) (all p l) t
  all_get_d p (x ∷ l) (suc i) d h t = all_get_d p l i d (omega arith) (and_right (p x) (all p l) t)

  -- a member that passes is counted
  pub count-some : (p : A → Bool) (l : List A) (i : ℕ) (d : A) → i < length l → T (p (get_or l i d)) → 0 < count p l
  unfolding count
  count-some p [] i d h t = absurd (omega arith)
  count-some p (x ∷ l) zero d h t = omega (arith, bit-yes (p x) t)
  count-some p (x ∷ l) (suc i) d h t = omega (arith, count-some p l i d (omega arith) t)

  -- where none is counted, none passes
  pub none-counted : (p : A → Bool) (l : List A) → count p l ≡ 0 → T (all (λ x. not (p x)) l)
  unfolding count all
  none-counted p [] h = tt
  none-counted p (x ∷ l) h = go (p x) h (none-counted p l)
    where
      go : (b : Bool) → bit b + count p l ≡ 0 → (count p l ≡ 0 → T (all (λ x. not (p x)) l)) → T (not b && all (λ x. not (p x)) l)
      go true h ih = absurd (omega arith)
      go false h ih = ih (omega arith)

  pub count-append : (p : A → Bool) (s t : List A) → count p (s ++ t) ≡ count p s + count p t
  unfolding count
  count-append p [] t = omega arith
  count-append p (x ∷ s) t = omega (arith, count-append p s t)

  -- a test that lets more members by, where they are of a kind r
  pub count-le : (r p q : A → Bool) (l : List A) → ((x : A) → T (r x) → T (p x) → T (q x)) → T (all r l) → count p l ≤ count q l
  unfolding count all
  count-le r p q [] h t = omega arith
  count-le r p q (x ∷ l) h t =
      omega (arith, bit_le (p x) (q x) (h x (and_left (r x) (all r l) t)), count-le r p q l h (and_right (r x) (all r l) t))

  pub count_same : (r p q : A → Bool) (l : List A) → ((x : A) → T (r x) → p x ≡ q x) → T (all r l) → count p l ≡ count q l
  unfolding count all
  count_same r p q [] h t = refl
  count_same r p q (x ∷ l) h t =
      omega (arith, ap bit (h x (and_left (r x) (all r l) t)), count_same r p q l h (and_right (r x) (all r l) t))

  pub all_true : (l : List A) → T (all (λ _. true) l)
  unfolding all
  all_true [] = tt
  all_true (x ∷ l) = all_true l

  -- the same laws of members of every kind
  pub count-le-all : (p q : A → Bool) (l : List A) → ((x : A) → T (p x) → T (q x)) → count p l ≤ count q l
  count-le-all p q l h = count-le (λ _. true) p q l (λ x _. h x) (all_true l)

  pub count-same-all : (p q : A → Bool) (l : List A) → ((x : A) → p x ≡ q x) → count p l ≡ count q l
  count-same-all p q l h = count_same (λ _. true) p q l (λ x _. h x) (all_true l)

  -- and one member more, where it passes q but not p
  pub count_less : (p q : A → Bool) (l : List A) (i : ℕ) (d : A) → ((x : A) → T (p x) → T (q x)) → i < length l → T (q (get_or l i d)) → (T (p (get_or l i d)) → ⊥) → count p l < count q l
  unfolding count
  count_less p q [] i d f h t n = absurd (omega arith)
  count_less p q (x ∷ l) zero d f h t n = omega (arith, bit-yes (q x) t, not-below 0 (bit (p x)) (λ g. n (bit-T (p x) g)), count-le-all p q l f)
  count_less p q (x ∷ l) (suc i) d f h t n = omega (arith, bit_le (p x) (q x) (f x), count_less p q l i d f (omega arith) t n)

  -- what passes and what does not make the whole
  pub count-not : (p : A → Bool) (l : List A) → count p l + count (λ x. not (p x)) l ≡ length l
  unfolding count
  count-not p [] = refl
  count-not p (x ∷ l) = omega (arith, bit_not (p x), count-not p l)

  pub count-length : (p : A → Bool) (l : List A) → count p l ≤ length l
  count-length p l = omega (arith, count-not p l)

  -- all pass where as many are counted as there are
  full-count : (p : A → Bool) (l : List A) → eqb (count p l) (length l) ≡ all p l
  unfolding count all
  full-count p [] = refl
  full-count p (x ∷ l) = go (p x) (full-count p l)
    where
      go : (b : Bool) → eqb (count p l) (length l) ≡ all p l → eqb (bit b + count p l) (suc (length l)) ≡ (b && all p l)
      go true ih = one_more (count p l) (length l) ∙ ih
      go false ih = ne_eqb (0 + count p l) (suc (length l)) (λ q. omega (arith, count-length p l))

  pub all-counted : (p : A → Bool) (l : List A) (n : ℕ) → n ≡ count p l → eqb n (length l) ≡ all p l
  all-counted p l n e = ap (λ (m : ℕ). eqb m (length l)) e ∙ full-count p l

  -- the members that pass p are those that pass q and those that pass p but not q
  pub count-both : (p q r : A → Bool) (l : List A) → ((x : A) → bit (p x) ≡ bit (q x) + bit (r x)) → count p l ≡ count q l + count r l
  unfolding count
  count-both p q r [] h = refl
  count-both p q r (x ∷ l) h = omega (arith, h x, count-both p q r l h)

pub all_map : {A B : Type 0} (f : A → B) (p : B → Bool) (l : List A) → all p (map f l) ≡ all (λ x. p (f x)) l
unfolding all
all_map f p [] = refl
all_map f p (x ∷ l) = ap (λ (b : Bool). p (f x) && b) (all_map f p l)

pub count_map : {A B : Type 0} (f : A → B) (p : B → Bool) (l : List A) → count p (map f l) ≡ count (λ x. p (f x)) l
unfolding count
count_map f p [] = refl
count_map f p (x ∷ l) = ap (λ (n : ℕ). bit (p (f x)) + n) (count_map f p l)

-- ---- numbers below a bound

pub count_below-le : (n : ℕ) (p q : ℕ → Bool) → ((i : ℕ) → i < n → T (p i) → T (q i)) → count_below n p ≤ count_below n q
unfolding count_below
count_below-le zero p q h = omega arith
count_below-le (suc n) p q h = omega (arith, bit_le (p n) (q n) (h n (omega arith)), count_below-le n p q (λ i l. h i (omega arith)))

pub count_below-same : (n : ℕ) (p q : ℕ → Bool) → ((i : ℕ) → i < n → p i ≡ q i) → count_below n p ≡ count_below n q
unfolding count_below
count_below-same zero p q h = refl
count_below-same (suc n) p q h = ap₂ (λ (a b : ℕ). a + b) (count_below-same n p q (λ i l. h i (omega arith))) (ap bit (h n (omega arith)))

pub count_below-none : (n : ℕ) → count_below n (λ _. false) ≡ 0
unfolding count_below
count_below-none zero = refl
count_below-none (suc n) = omega (arith, count_below-none n)

pub count_below-front : (n : ℕ) (p : ℕ → Bool) → count_below (suc n) p ≡ bit (p 0) + count_below n (λ i. p (suc i))
unfolding count_below
count_below-front zero p = omega arith
count_below-front (suc n) p = omega (arith, count_below-front n p)

pub count_below-list : {A : Type 0} (p : A → Bool) (l : List A) (d : A) → count_below (length l) (λ i. p (get_or l i d)) ≡ count p l
unfolding count_below count
count_below-list p [] d = refl
count_below-list p (x ∷ l) d = omega (arith, count_below-front (length l) (λ i. p (get_or (x ∷ l) i d)), count_below-list p l d)
