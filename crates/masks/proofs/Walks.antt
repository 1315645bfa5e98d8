-- A walk over choices among columns, for any function f of a set: column by column, each chosen first and then passed over.
--   join_at K j I          K with the columns I, which start at column j; join-none: with none of them
--   split                  the next of the columns that are still to be looked at, and the others
--   size-set, put-lt, put-columns      a column put into a set, and into its mask
--   values_from f cols s rest from left    f of the set s with each choice of `left` columns among those of `rest`, which start at column `from`
--   values-leaf, values-none           nothing left to choose, or to choose from
--   values-past, values-in             the next column is not among them; it is
--   values-all             the whole walk, from column 0
--   before-end, free       the next column stands before the end, and is not in the set
--   chosen-fits, chosen-columns, chosen-size     the set with it
--   walk-past, walk-in     what holds at the calls that the walk makes; half-falls: they have less left
use Prim.Native.Nat.{ℕ, zero, suc, ◌+◌, ◌-◌, ◌/◌, ◌%◌, ◌^◌, ◌≤◌, ◌<◌}
use native.Mathlib.Omega.{arith}
use native.Mathlib.Numerals.{add-one}
use native.Mathlib.Nat.{pow-suc}
use mathlib.Core.Path.{◌≡◌, refl, sym, ap, ap₂, ◌∙◌, subst}
use mathlib.Core.Bool.{Bool, true, false, ◌||◌}
use mathlib.Core.List.{List, [], ◌∷◌, ◌++◌, map, zip_with}
use lib.ListN.{length, set, replicate, length-set}
use lib.Seq.{get_or-set_other}
use lib.Dec.{T, eqb}
use lib.Pow.{pow_mono}
use borrow.Author.Tests.{eq-eqb, ne_eqb}
use Rattle.order.specs.Counting.{bit, count}
use Rattle.columns.specs.Columns.{Columns, size, ◌∪◌, choose, columns_of, mask_of}
use Rattle.columns.proofs.Sets.{has}
use Rattle.columns.proofs.Masks.{columns_of-length, columns_of-mask_of, mask_of-columns_of, mask_of-lt}
use Rattle.masks.specs.Internal.{Walk}

-- ---- lists

module _ {A B : Type 0} where
  map-append : (f : A → B) (s t : List A) → map f (s ++ t) ≡ map f s ++ map f t
  map-append f [] t = refl
  map-append f (x ∷ s) t = ap (λ (l : List B). f x ∷ l) (map-append f s t)

  map_same : (f g : A → B) (l : List A) → ((x : A) → f x ≡ g x) → map f l ≡ map g l
  map_same f g [] h = refl
  map_same f g (x ∷ l) h = ap₂ (λ (y : B) (m : List B). y ∷ m) (h x) (map_same f g l h)

map-twice : {A B C : Type 0} (f : B → C) (g : A → B) (l : List A) → map f (map g l) ≡ map (λ x. f (g x)) l
map-twice f g [] = refl
map-twice f g (x ∷ l) = ap (λ m. f (g x) ∷ m) (map-twice f g l)

-- ---- a column put into a set

mask-set : (K : Columns) (j : ℕ) → j < length K → has K j ≡ false → mask_of (set K j true) ≡ mask_of K + 2 ^ j
unfolding mask_of
mask-set [] j h e = absurd (omega arith)
mask-set (b ∷ K) zero h e = omega (arith, ap bit e)
mask-set (b ∷ K) (suc j) h e = omega (arith, mask-set K j (omega arith) e, pow-suc 2 j)

pub size-set : (K : Columns) (j : ℕ) → j < length K → has K j ≡ false → size (set K j true) ≡ suc (size K)
unfolding size count
size-set [] j h e = absurd (omega arith)
size-set (b ∷ K) zero h e = omega (arith, ap bit e)
size-set (b ∷ K) (suc j) h e = omega (arith, size-set K j (omega arith) e)

module _ (cols s j : ℕ) (inside : s < 2 ^ cols) (h : j < cols) (e : has (columns_of cols s) j ≡ false) where
  put-mask : mask_of (set (columns_of cols s) j true) ≡ s + 2 ^ j
  put-mask = mask-set (columns_of cols s) j (omega (arith, columns_of-length cols s)) e ∙ ap (λ (n : ℕ). n + 2 ^ j) (mask_of-columns_of cols s inside)

  pub put-lt : s + 2 ^ j < 2 ^ cols
  put-lt = subst (λ (n : ℕ). n < 2 ^ cols) put-mask
      (subst (λ (n : ℕ). mask_of (set (columns_of cols s) j true) < 2 ^ n) (length-set (columns_of cols s) j true ∙ columns_of-length cols s) (mask_of-lt (set (columns_of cols s) j true)))

  pub put-columns : columns_of cols (s + 2 ^ j) ≡ set (columns_of cols s) j true
  put-columns =
      ap₂ (λ (m n : ℕ). columns_of m n) (sym (length-set (columns_of cols s) j true ∙ columns_of-length cols s)) (sym put-mask) ∙ columns_of-mask_of (set (columns_of cols s) j true)

-- ---- with a choice of later columns

abbrev pub join_at : Columns → ℕ → Columns → Columns
join_at K j I = K ∪ (replicate j false ++ I)

or-true : (a : Bool) → (a || true) ≡ true
or-true true = refl
or-true false = refl

or-false : (a : Bool) → (a || false) ≡ a
or-false true = refl
or-false false = refl

join-in : (K : Columns) (j : ℕ) (I : Columns) → join_at K j (true ∷ I) ≡ join_at (set K j true) (suc j) I
unfolding ◌∪◌ zip_with
join-in [] zero I = refl
join-in [] (suc j) I = refl
join-in (a ∷ K) zero I = ap (λ (b : Bool). b ∷ zip_with ◌||◌ K I) (or-true a)
join-in (a ∷ K) (suc j) I = ap (λ (L : Columns). (a || false) ∷ L) (join-in K j I)

join-past : (K : Columns) (j : ℕ) (I : Columns) → join_at K j (false ∷ I) ≡ join_at K (suc j) I
join-past K j I = ap (λ (L : Columns). K ∪ L) (shift j)
  where
    shift : (j : ℕ) → replicate j false ++ (false ∷ I) ≡ replicate (suc j) false ++ I
    shift zero = refl
    shift (suc j) = ap (λ (L : Columns). false ∷ L) (shift j)

pub join-none : (K R : Columns) (j : ℕ) → length K ≡ j + length R → join_at K j (map (λ _. false) R) ≡ K
unfolding ◌∪◌ zip_with
join-none [] R zero h = refl
join-none [] R (suc j) h = absurd (omega arith)
join-none (a ∷ K) [] zero h = absurd (omega arith)
join-none (a ∷ K) (r ∷ R) zero h = ap₂ (λ (b : Bool) (L : Columns). b ∷ L) (or-false a) (join-none K R zero (omega arith))
join-none (a ∷ K) R (suc j) h = ap₂ (λ (b : Bool) (L : Columns). b ∷ L) (or-false a) (join-none K R j (omega arith))

choose-zero : (j m : ℕ) → choose (suc j) (columns_of m 0) ≡ []
unfolding choose columns_of
choose-zero j zero = refl
choose-zero j (suc m) = ap (map (λ I. false ∷ I)) (choose-zero j m)

pub split : (cols rest from : ℕ) → from < cols → columns_of (cols - from) rest ≡ eqb (rest % 2) 1 ∷ columns_of (cols - (from + 1)) (rest / 2)
unfolding columns_of
split cols rest from h = let e : cols - from ≡ suc (cols - (from + 1)) = omega arith in ap (λ (n : ℕ). columns_of n rest) e

-- ---- the values that the walk meets

module _ {A : Type 0} (f : Columns → A) (cols : ℕ) where
  abbrev pub values_from : ℕ → ℕ → ℕ → ℕ → List A
  values_from s rest from left = map (λ I. f (columns_of cols s ∪ (replicate from false ++ I))) (choose left (columns_of (cols - from) rest))

  step_past : (K : Columns) (from : ℕ) (l : List Columns) → map (λ I. f (join_at K from I)) (map (λ I. false ∷ I) l) ≡ map (λ I. f (join_at K (from + 1) I)) l
  step_past K from l = map-twice (λ I. f (join_at K from I)) (λ I. false ∷ I) l
      ∙ map_same (λ I. f (join_at K from (false ∷ I))) (λ I. f (join_at K (from + 1) I)) l (λ I. ap f (join-past K from I ∙ ap (λ (n : ℕ). join_at K n I) (sym (add-one from))))

  step_in : (K : Columns) (from : ℕ) (l : List Columns) → map (λ I. f (join_at K from I)) (map (λ I. true ∷ I) l) ≡ map (λ I. f (join_at (set K from true) (from + 1) I)) l
  step_in K from l = map-twice (λ I. f (join_at K from I)) (λ I. true ∷ I) l
      ∙ map_same (λ I. f (join_at K from (true ∷ I))) (λ I. f (join_at (set K from true) (from + 1) I)) l (λ I. ap f (join-in K from I ∙ ap (λ (n : ℕ). join_at (set K from true) n I) (sym (add-one from))))

  module _ (s rest from : ℕ) where
    later : Columns
    later = columns_of (cols - (from + 1)) (rest / 2)

    with-next : from < cols → (b : Bool) → eqb (rest % 2) 1 ≡ b → columns_of (cols - from) rest ≡ b ∷ later
    unfolding later
    with-next h b e = split cols rest from h ∙ ap (λ (c : Bool). c ∷ columns_of (cols - (from + 1)) (rest / 2)) e

    pub values-leaf : (left : ℕ) → from ≤ cols → left ≡ 0 → values_from s rest from left ≡ f (columns_of cols s) ∷ []
    unfolding choose
    values-leaf left h z =
        ap (λ (n : ℕ). values_from s rest from n) z
        ∙ ap (λ (K : Columns). f K ∷ []) (join-none (columns_of cols s) (columns_of (cols - from) rest) from (omega (arith, columns_of-length cols s, columns_of-length (cols - from) rest)))

    pub values-none : (left : ℕ) → (left ≡ 0 → ⊥) → rest ≡ 0 → values_from s rest from left ≡ []
    values-none zero g z = absurd (g refl)
    values-none (suc left) g z = ap (λ (r : ℕ). values_from s r from (suc left)) z ∙ ap (map (λ I. f (join_at (columns_of cols s) from I))) (choose-zero left (cols - from))

    pub values-past : (left : ℕ) → from < cols → (left ≡ 0 → ⊥) → (rest % 2 ≡ 1 → ⊥) → values_from s (rest / 2) (from + 1) left ≡ values_from s rest from left
    unfolding choose later
    values-past zero h g q = absurd (g refl)
    values-past (suc left) h g q =
        sym (ap (λ (R : Columns). map (λ I. f (join_at (columns_of cols s) from I)) (choose (suc left) R)) (with-next h false (ne_eqb (rest % 2) 1 q))
        ∙ step_past (columns_of cols s) from (choose (suc left) later))

    pub values-in : (left s' : ℕ) → from < cols → (left ≡ 0 → ⊥) → rest % 2 ≡ 1 → columns_of cols s' ≡ set (columns_of cols s) from true
        → values_from s' (rest / 2) (from + 1) (left - 1) ++ values_from s (rest / 2) (from + 1) left ≡ values_from s rest from left
    unfolding choose later
    values-in zero s' h g q p = absurd (g refl)
    values-in (suc left) s' h g q p =
        let z : suc left - 1 ≡ left = omega arith in
        ap (λ (n : ℕ). values_from s' (rest / 2) (from + 1) n ++ values_from s (rest / 2) (from + 1) (suc left)) z
        ∙ ap (λ (K : Columns). map (λ I. f (join_at K (from + 1) I)) (choose left later) ++ values_from s (rest / 2) (from + 1) (suc left)) p
        ∙ sym (ap (λ (R : Columns). map (λ I. f (join_at (columns_of cols s) from I)) (choose (suc left) R)) (with-next h true (eq-eqb (rest % 2) 1 q))
        ∙ map-append (λ I. f (join_at (columns_of cols s) from I)) (map (λ I. true ∷ I) (choose left later)) (map (λ I. false ∷ I) (choose (suc left) later))
        ∙ ap₂ (λ (x y : List A). x ++ y) (step_in (columns_of cols s) from (choose left later)) (step_past (columns_of cols s) from (choose (suc left) later)))

  pub values-all : (s rest left : ℕ) → values_from s rest 0 left ≡ map (λ I. f (columns_of cols s ∪ I)) (choose left (columns_of cols rest))
  values-all s rest left = let z : cols - 0 ≡ cols = omega arith in ap (λ (n : ℕ). map (λ I. f (columns_of cols s ∪ I)) (choose left (columns_of n rest))) z

-- ---- what holds at the next calls

half_lt : (r m : ℕ) → 0 < m → r < 2 ^ m → r / 2 < 2 ^ (m - 1)
half_lt r zero p h = absurd (omega arith)
half_lt r (suc m) p h = let e : suc m - 1 ≡ m = omega arith in rw e (omega (arith, pow-suc 2 m))

half_room : (cols from r : ℕ) → from < cols → r < 2 ^ (cols - from) → r / 2 < 2 ^ (cols - (from + 1))
half_room cols from r l h = let e : cols - (from + 1) ≡ cols - from - 1 = omega arith in rw e (half_lt r (cols - from) (omega arith) h)

module _ {cols s rest from : ℕ} (w : Walk cols s rest from) (some : rest ≡ 0 → ⊥) where
  pub before-end : from < cols
  before-end = go (cols - from) refl
    where
      go : (m : ℕ) → cols - from ≡ m → from < cols
      go zero e = absurd (some (omega (arith, subst (λ (n : ℕ). rest < 2 ^ n) e w.rests)))
      go (suc m) e = omega arith

  rest-split : columns_of (cols - from) rest ≡ eqb (rest % 2) 1 ∷ columns_of (cols - (from + 1)) (rest / 2)
  rest-split = split cols rest from before-end

  -- a later column of the rest is not in the set
  later-apart : (j : ℕ) → T (has (columns_of (cols - (from + 1)) (rest / 2)) j) → has (columns_of cols s) (from + 1 + j) ≡ false
  later-apart j t = let e : from + suc j ≡ from + 1 + j = omega arith in
      subst (λ (n : ℕ). has (columns_of cols s) n ≡ false) e (w.apart (suc j) (subst (λ (R : Columns). T (has R (suc j))) (sym rest-split) t))

  pub walk-past : Walk cols s (rest / 2) (from + 1)
  walk-past = record { place = omega (arith, before-end); inside = w.inside; rests = half_room cols from rest before-end w.rests; apart = later-apart }

  module _ (odd : rest % 2 ≡ 1) where
    pub free : has (columns_of cols s) from ≡ false
    free = let e : from + 0 ≡ from = omega arith in
        subst (λ (n : ℕ). has (columns_of cols s) n ≡ false) e
        (w.apart 0 (subst (λ (R : Columns). T (has R 0)) (sym (rest-split ∙ ap (λ (b : Bool). b ∷ columns_of (cols - (from + 1)) (rest / 2)) (eq-eqb (rest % 2) 1 odd))) tt))

    pub chosen-fits : cols ≤ 32 → (v : ℕ) → v ≡ 2 ^ from → s + v < 2 ^ 32
    chosen-fits h v e = let l : 2 ^ cols ≤ 2 ^ 32 = pow_mono h in let p = put-lt cols s from w.inside before-end free in omega (arith, l, p, e)

    module _ (v : ℕ) (e : v ≡ 2 ^ from) where
      pub chosen-columns : columns_of cols (s + v) ≡ set (columns_of cols s) from true
      chosen-columns = ap (λ (x : ℕ). columns_of cols (s + x)) e ∙ put-columns cols s from w.inside before-end free

      pub chosen-size : size (columns_of cols (s + v)) ≡ suc (size (columns_of cols s))
      chosen-size = ap size chosen-columns ∙ size-set (columns_of cols s) from (omega (arith, columns_of-length cols s, before-end)) free

      pub walk-in : Walk cols (s + v) (rest / 2) (from + 1)
      walk-in = record {
        place = omega (arith, before-end);
        inside = subst (λ (x : ℕ). s + x < 2 ^ cols) (sym e) (put-lt cols s from w.inside before-end free);
        rests = half_room cols from rest before-end w.rests;
        apart = λ j t. ap (λ (K : Columns). has K (from + 1 + j)) chosen-columns ∙ get_or-set_other (columns_of cols s) from (from + 1 + j) true false (λ q. omega arith) ∙ later-apart j t;
      }

pub half-falls : {t : ℕ} (r : ℕ) → (r ≡ 0 → ⊥) → r ≡ t → r / 2 < t
half-falls r f e = omega (arith, f)
