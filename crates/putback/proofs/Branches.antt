-- The branches of the walk: their sets, and what holds of the next ones.
--   sets-leaf, sets-none     nothing left to choose, or to choose from
--   sets-past, sets-in       the next column is not among the rejected ones; it is
--   sets-all                 the whole walk
--   next_fits, chosen-fits   the next column is there, and the set with it fits
--   at_with, at-without      what holds of the next branches; rest-falls: they have less left
--   unite-fits, unite-lt     the mask of all columns of a branch fits
--   member, sets-each        what holds of the set of each choice holds of all sets
use Prim.Native.Nat.{ℕ, zero, suc, ◌+◌, ◌-◌, ◌*◌, ◌/◌, ◌%◌, ◌^◌, ◌≤◌, ◌<◌}
use native.Mathlib.Omega.{arith}
use native.Mathlib.Nat.{pow-suc, mul_assoc}
use mathlib.Core.Path.{◌≡◌, refl, sym, ap, ap₂, ◌∙◌, subst}
use mathlib.Core.Bool.{Bool, true, false, ◌||◌}
use mathlib.Core.List.{[], ◌∷◌, ◌++◌, map, zip_with}
use lib.ListN.{length, replicate, length-append, length-replicate}
use lib.Dec.{T}
use lib.Pow.{pow_mono}
use Rattle.order.specs.Counting.{bit, count, all}
use Rattle.order.proofs.Counts.{all_map}
use Rattle.columns.specs.Columns.{Columns, size, ◌∪◌, choose, columns_of, mask_of}
use Rattle.columns.proofs.Sets.{◌⊆◌, none, more, has, ⊆-at, ⊆-length, length-∪}
use Rattle.columns.proofs.PutBack.{choose-sound}
use Rattle.columns.proofs.Masks.{columns_of-length, columns_of-mask_of, mask_of-columns_of, mask_of-lt}
use Rattle.masks.proofs.Walks.{join_at, values-leaf, values-none, values-past, values-in, values-all, before-end, chosen-columns, chosen-size, walk-in, walk-past, half-falls}
use Rattle.masks.proofs.Walks as walks
use Rattle.putback.specs.Internal.{sets_of, with, without, unite, At}
use Rattle.putback.specs.declared.branch.Branch.{Branch}

-- ---- the sets

module _ (cols : ℕ) (b : Branch) where
  pub sets-leaf : b.from ≤ cols → b.left ≡ 0 → sets_of cols b ≡ columns_of cols b.set ∷ []
  unfolding sets_of
  sets-leaf h z = values-leaf (λ K. K) cols b.set b.rest b.from b.left h z

  pub sets-none : (b.left ≡ 0 → ⊥) → b.rest ≡ 0 → sets_of cols b ≡ []
  unfolding sets_of
  sets-none g z = values-none (λ K. K) cols b.set b.rest b.from b.left g z

  module _ (h : b.from < cols) (g : b.left ≡ 0 → ⊥) where
    pub sets-past : (b.rest % 2 ≡ 1 → ⊥) → sets_of cols (without b) ≡ sets_of cols b
    unfolding sets_of
    sets-past q = values-past (λ K. K) cols b.set b.rest b.from b.left h g q

    pub sets-in : b.rest % 2 ≡ 1 → columns_of cols (b.set + 2 ^ b.from) ≡ lib.ListN.set (columns_of cols b.set) b.from true → sets_of cols (with b) ++ sets_of cols (without b) ≡ sets_of cols b
    unfolding sets_of
    sets-in q p = values-in (λ K. K) cols b.set b.rest b.from b.left (b.set + 2 ^ b.from) h g q p

pub sets-all : (cols remaining rejected left : ℕ) → sets_of cols (record { set = remaining; rest = rejected; from = 0; left = left }) ≡ map (λ I. columns_of cols remaining ∪ I) (choose left (columns_of cols rejected))
unfolding sets_of
sets-all cols remaining rejected left = values-all (λ K. K) cols remaining rejected left

-- ---- the next branches

module _ {cols k : ℕ} {b : Branch} (a : At cols k b) (some : b.rest ≡ 0 → ⊥) where
  pub next_fits : b.from < cols
  next_fits = before-end a.walk some

  pub at-without : At cols k (without b)
  at-without = record { walk = walk-past a.walk some; many = a.many; fewer = a.fewer }

  pub rest-falls : {t : ℕ} → b.rest ≡ t → b.rest / 2 < t
  rest-falls e = half-falls b.rest some e

  module _ (odd : b.rest % 2 ≡ 1) where
    pub chosen-fits : cols ≤ 32 → b.set + 2 ^ b.from < 2 ^ 32
    chosen-fits h = walks.chosen-fits a.walk some odd h (2 ^ b.from) refl

    pub chosen_is : columns_of cols (b.set + 2 ^ b.from) ≡ lib.ListN.set (columns_of cols b.set) b.from true
    chosen_is = chosen-columns a.walk some odd (2 ^ b.from) refl

    pub at_with : (b.left ≡ 0 → ⊥) → At cols k (with b)
    at_with g = record {
      walk = walk-in a.walk some odd (2 ^ b.from) refl;
      many = omega (arith, a.many, g, chosen-size a.walk some odd (2 ^ b.from) refl);
      fewer = omega (arith, a.fewer);
    }

-- ---- a set with columns that start at column j and are not in it

-- no column of R, which starts at column j, is in K
Apart : Columns → ℕ → Columns → Type 0
Apart K j R = (i : ℕ) → T (has R i) → has K (j + i) ≡ false

apart-tail : (a : Bool) (K : Columns) (j : ℕ) (R : Columns) → Apart (a ∷ K) (suc j) R → Apart K j R
unfolding Apart
apart-tail a K j R f i t = let e : suc j + i ≡ suc (j + i) = omega arith in subst (λ (n : ℕ). has (a ∷ K) n ≡ false) e (f i t)

apart-rest : (a b : Bool) (K : Columns) (R : Columns) → Apart (a ∷ K) 0 (b ∷ R) → Apart K 0 R
unfolding Apart
apart-rest a b K R f i t = let e : 0 + suc i ≡ suc (0 + i) = omega arith in subst (λ (n : ℕ). has (a ∷ K) n ≡ false) e (f (suc i) t)

apart-part : (K : Columns) (j : ℕ) {I R : Columns} → I ⊆ R → Apart K j R → Apart K j I
unfolding Apart
apart-part K j sub f i t = f i (⊆-at sub i t)

bit_or : (a b : Bool) → (T b → a ≡ false) → bit (a || b) ≡ bit a + bit b
bit_or true true f = absurd (subst (λ (c : Bool). T c) (f tt) tt)
bit_or true false f = refl
bit_or false true f = refl
bit_or false false f = refl

join-size : (K : Columns) (j : ℕ) (R : Columns) → length K ≡ j + length R → Apart K j R → size (join_at K j R) ≡ size K + size R
unfolding size count ◌∪◌ zip_with Apart
join-size [] zero [] h f = refl
join-size [] zero (b ∷ R) h f = absurd (omega arith)
join-size [] (suc j) R h f = absurd (omega arith)
join-size (a ∷ K) zero [] h f = absurd (omega arith)
join-size (a ∷ K) zero (b ∷ R) h f = omega (arith, bit_or a b (λ t. f 0 t), join-size K zero R (omega arith) (apart-rest a b K R f))
join-size (a ∷ K) (suc j) R h f = omega (arith, bit_or a false (λ t. absurd t), join-size K j R (omega arith) (apart-tail a K j R f))

join-mask : (K : Columns) (j : ℕ) (R : Columns) → length K ≡ j + length R → Apart K j R → mask_of (join_at K j R) ≡ mask_of K + mask_of R * 2 ^ j
unfolding mask_of ◌∪◌ zip_with Apart
join-mask [] zero [] h f = refl
join-mask [] zero (b ∷ R) h f = absurd (omega arith)
join-mask [] (suc j) R h f = absurd (omega arith)
join-mask (a ∷ K) zero [] h f = absurd (omega arith)
join-mask (a ∷ K) zero (b ∷ R) h f = omega (arith, bit_or a b (λ t. f 0 t), join-mask K zero R (omega arith) (apart-rest a b K R f))
join-mask (a ∷ K) (suc j) R h f =
    let p : mask_of R * 2 ^ suc j ≡ mask_of R * 2 ^ j * 2 = ap (λ (x : ℕ). mask_of R * x) (pow-suc 2 j) ∙ sym (mul_assoc (mask_of R) (2 ^ j) 2) in
    omega (arith, p, bit_or a false (λ t. absurd t), join-mask K j R (omega arith) (apart-tail a K j R f))

moved_length : (j : ℕ) (R : Columns) → length (replicate j false ++ R) ≡ j + length R
moved_length j R = omega (arith, length-append (replicate j false) R, length-replicate {A = Bool} j false)

moved-size : (j : ℕ) (R : Columns) → size (replicate j false ++ R) ≡ size R
unfolding size count
moved-size zero R = refl
moved-size (suc j) R = omega (arith, moved-size j R)

join_more : (K : Columns) (j : ℕ) {I R : Columns} → I ⊆ R → join_at K j I ⊆ join_at K j R
unfolding ◌∪◌ zip_with
join_more [] zero sub = none
join_more [] (suc j) sub = none
join_more (a ∷ K) zero none = none
join_more (a ∷ K) zero (more {a = b} {b = c} f sub) = more (or-more a b c f) (join_more K zero sub)
  where
    or-more : (a b c : Bool) → (T b → T c) → T (a || b) → T (a || c)
    or-more true b c f t = tt
    or-more false b c f t = f t
join_more (a ∷ K) (suc j) sub = more (λ t. t) (join_more K j sub)

-- ---- all columns of a branch, and each of its sets

module _ {cols k : ℕ} {b : Branch} (a : At cols k b) where
  abbrev S : Columns
  S = columns_of cols b.set

  abbrev R : Columns
  R = columns_of (cols - b.from) b.rest

  rooms : length S ≡ b.from + length R
  rooms = omega (arith, a.walk.place, columns_of-length cols b.set, columns_of-length (cols - b.from) b.rest)

  parted : Apart S b.from R
  unfolding Apart
  parted = a.walk.apart

  unite-mask : mask_of (join_at S b.from R) ≡ unite b
  unite-mask = join-mask S b.from R rooms parted ∙ ap₂ (λ (x y : ℕ). x + y * 2 ^ b.from) (mask_of-columns_of cols b.set a.walk.inside) (mask_of-columns_of (cols - b.from) b.rest a.walk.rests)

  joined_length : (I : Columns) → length I ≡ length R → length (join_at S b.from I) ≡ cols
  joined_length I h = length-∪ S (replicate b.from false ++ I) (omega (arith, rooms, moved_length b.from I)) ∙ columns_of-length cols b.set

  pub unite-lt : unite b < 2 ^ cols
  unite-lt = subst (λ (m : ℕ). m < 2 ^ cols) unite-mask (subst (λ (n : ℕ). mask_of (join_at S b.from R) < 2 ^ n) (joined_length R refl) (mask_of-lt (join_at S b.from R)))

  pub unite-fits : cols ≤ 32 → unite b < 2 ^ 32
  unite-fits h = let l : 2 ^ cols ≤ 2 ^ 32 = pow_mono h in omega (arith, l, unite-lt)

  unite-columns : columns_of cols (unite b) ≡ join_at S b.from R
  unite-columns = ap₂ (λ (n m : ℕ). columns_of n m) (sym (joined_length R refl)) (sym unite-mask) ∙ columns_of-mask_of (join_at S b.from R)

  -- what a set of the branch is: of all columns of the table, k of them or more, `set` with `left` others, and within all columns of the branch
  pub record Member (K : Columns) : Type 0 where
    pub whole : length K ≡ cols
    pub wide : k ≤ size K
    pub other : Columns
    pub made : K ≡ columns_of cols b.set ∪ other
    pub other_length : length other ≡ length (columns_of cols b.set)
    pub other-size : size other ≡ b.left
    pub inside : K ⊆ columns_of cols (unite b)

  member : (I : Columns) → I ⊆ R → size I ≡ b.left → Member (join_at S b.from I)
  member I sub z = record {
    whole = joined_length I (⊆-length sub);
    wide = omega (arith, a.many, z, join-size S b.from I (omega (arith, rooms, ⊆-length sub)) (apart-part S b.from sub parted));
    other = replicate b.from false ++ I;
    made = refl;
    other_length = omega (arith, moved_length b.from I, rooms, ⊆-length sub);
    other-size = moved-size b.from I ∙ z;
    inside = subst (λ (U : Columns). join_at S b.from I ⊆ U) (sym unite-columns) (join_more S b.from sub);
  }

  pub sets-each : (p : Columns → Bool) → ((K : Columns) → Member K → T (p K)) → T (all p (sets_of cols b))
  unfolding sets_of
  sets-each p h = rw (all_map (λ I. join_at S b.from I) p (choose b.left R)) (choose-sound b.left R (λ I. p (join_at S b.from I)) (λ I sub z. h (join_at S b.from I) (member I sub z)))
