-- Sets of columns bit by bit: what a scan from column 0 on has seen, and what is still to come.
--   above_from, above-start, above_in, above-past, above-done    a mask of the columns whose value is above v
--   above-fits, above-room, above-keep     that mask stays below the bit of the next column, and within 32
--   lowest_from, lowest_start, lowest-hit, lowest-on, lowest-out    the lowest column whose value equals v
--   full-32     the mask of 32 columns
use Prim.Native.Nat.{ℕ, suc, ◌+◌, ◌-◌, ◌*◌, ◌/◌, ◌%◌, ◌^◌, ◌≤◌, ◌<◌}
use native.Mathlib.Omega.{arith}
use native.Mathlib.Numerals.{add-one}
use native.Mathlib.Nat.{pow-suc, mul-one, mul-zero, mul-add, mul_assoc}
use mathlib.Core.Path.{◌≡◌, refl, sym, ap, ap₂, ◌∙◌}
use mathlib.Core.Bool.{Bool, true, false, cond, ◌&&◌}
use mathlib.Core.List.{List, ◌∷◌, zip_with}
use lib.ListN.{length, get_or, drop}
use lib.Seq.{drop-cons}
use lib.Dec.{eqb}
use lib.Pow.{pow_mono}
use lib.Ieee.{Float, nan}
use Rattle.order.specs.Order.{smaller, equal}
use Rattle.order.specs.Counting.{bit}
use Rattle.order.specs.Lists.{first_at}
use Rattle.columns.specs.Columns.{Columns, ◌∩◌, over, equal_to, lowest, columns_of, mask_of, full_mask}

-- ---- the columns from i on

module _ (cols i s : ℕ) (h : i < cols) where
  split : (b : Bool) → eqb (s % 2) 1 ≡ b → columns_of (cols - i) s ≡ b ∷ columns_of (cols - (i + 1)) (s / 2)
  unfolding columns_of
  split b e = let n : cols - i ≡ suc (cols - (i + 1)) = omega arith in ap (λ (m : ℕ). columns_of m s) n ∙ ap (λ (c : Bool). c ∷ columns_of (cols - (i + 1)) (s / 2)) e

-- ---- the columns above v

-- the mask that is still to come, from column i on
unfoldable pub above_from : List Float → ℕ → ℕ → Float → ℕ
above_from row i s v = mask_of (columns_of (length row - i) s ∩ over v (drop i row))

module _ (row : List Float) (i s : ℕ) (v : Float) (h : i < length row) where
  above-is : above_from row i s v ≡ bit (eqb (s % 2) 1 && smaller v (get_or row i nan)) + 2 * above_from row (i + 1) (s / 2) v
  unfolding above_from ◌∩◌ zip_with over mask_of
  above-is = ap₂ (λ (K : Columns) (r : List Float). mask_of (K ∩ over v r)) (split (length row) i s h (eqb (s % 2) 1) refl) (drop-cons row i nan h ∙ ap (λ (n : ℕ). get_or row i nan ∷ drop n row) (sym (add-one i)))

  carry : (m a : ℕ) → m + 2 ^ i * (a + 2 * above_from row (i + 1) (s / 2) v) ≡ m + 2 ^ i * a + 2 ^ (i + 1) * above_from row (i + 1) (s / 2) v
  carry m a = let p : 2 ^ (i + 1) ≡ 2 ^ i * 2 = ap (λ (n : ℕ). 2 ^ n) (add-one i) ∙ pow-suc 2 i in
      let q : 2 ^ i * (a + 2 * above_from row (i + 1) (s / 2) v) ≡ 2 ^ i * a + 2 ^ i * (2 * above_from row (i + 1) (s / 2) v) = mul-add (2 ^ i) a (2 * above_from row (i + 1) (s / 2) v) in
      let r : 2 ^ i * (2 * above_from row (i + 1) (s / 2) v) ≡ 2 ^ (i + 1) * above_from row (i + 1) (s / 2) v = sym (mul_assoc (2 ^ i) 2 (above_from row (i + 1) (s / 2) v)) ∙ ap (λ (n : ℕ). n * above_from row (i + 1) (s / 2) v) (sym p) in
      omega arith

  above-turn : (b : Bool) (m t : ℕ) → (eqb (s % 2) 1 && smaller v (get_or row i nan)) ≡ b → m + 2 ^ i * above_from row i s v ≡ t → m + 2 ^ i * bit b + 2 ^ (i + 1) * above_from row (i + 1) (s / 2) v ≡ t
  above-turn b m t e g =
      sym (carry m (bit b)) ∙ ap (λ (x : ℕ). m + 2 ^ i * x) (sym (above-is ∙ ap (λ (d : Bool). bit d + 2 * above_from row (i + 1) (s / 2) v) e)) ∙ g

  pub above_in : (m n p t : ℕ) → (eqb (s % 2) 1 && smaller v (get_or row i nan)) ≡ true → p ≡ 2 ^ i → n ≡ m + p → m + 2 ^ i * above_from row i s v ≡ t → n + 2 ^ (i + 1) * above_from row (i + 1) (s / 2) v ≡ t
  above_in m n p t e q r g = omega (arith, above-turn true m t e g, mul-one (2 ^ i))

  pub above-past : (m n t : ℕ) → (eqb (s % 2) 1 && smaller v (get_or row i nan)) ≡ false → n ≡ m → m + 2 ^ i * above_from row i s v ≡ t → n + 2 ^ (i + 1) * above_from row (i + 1) (s / 2) v ≡ t
  above-past m n t e r g = omega (arith, above-turn false m t e g, mul-zero (2 ^ i))

pub above-done : (row : List Float) (i s m t : ℕ) (v : Float) → length row ≤ i → m + 2 ^ i * above_from row i s v ≡ t → m ≡ t
unfolding above_from columns_of ◌∩◌ zip_with mask_of
above-done row i s m t v h g = let e : length row - i ≡ 0 = omega arith in omega (arith, mul-zero (2 ^ i), ap (λ (n : ℕ). 2 ^ i * mask_of (columns_of n s ∩ over v (drop i row))) e)

pub above-start : (row : List Float) (s : ℕ) (v : Float) → 0 + 2 ^ 0 * above_from row 0 s v ≡ mask_of (columns_of (length row) s ∩ over v row)
unfolding above_from
above-start row s v = let e : length row - 0 ≡ length row = omega arith in omega (arith, ap (λ (n : ℕ). mask_of (columns_of n s ∩ over v row)) e)

-- one bit more still fits
pub above-fits : (i n m p : ℕ) → i < n → n ≤ 32 → m < 2 ^ i → p ≡ 2 ^ i → m + p < 2 ^ 32
above-fits i n m p h k l e = let d : i + 1 ≤ 32 = omega arith in let q : 2 ^ (i + 1) ≤ 2 ^ 32 = pow_mono d in let r : 2 ^ (i + 1) ≡ 2 ^ i * 2 = ap (λ (x : ℕ). 2 ^ x) (add-one i) ∙ pow-suc 2 i in omega arith

pub above-room : (i m n p : ℕ) → m < 2 ^ i → p ≡ 2 ^ i → n ≡ m + p → n < 2 ^ (i + 1)
above-room i m n p l e f = let r : 2 ^ (i + 1) ≡ 2 ^ i * 2 = ap (λ (x : ℕ). 2 ^ x) (add-one i) ∙ pow-suc 2 i in omega arith

pub above-keep : (i m n : ℕ) → m < 2 ^ i → n ≡ m → n < 2 ^ (i + 1)
above-keep i m n l e = let r : 2 ^ (i + 1) ≡ 2 ^ i * 2 = ap (λ (x : ℕ). 2 ^ x) (add-one i) ∙ pow-suc 2 i in omega arith

-- ---- the lowest column with a value

-- the one that is still to be found, from column i on
unfoldable pub lowest_from : List Float → ℕ → ℕ → Float → ℕ
lowest_from row i s v = i + lowest (columns_of (length row - i) s ∩ equal_to v (drop i row))

module _ (row : List Float) (i s : ℕ) (v : Float) (h : i < length row) where
  lowest-turn : (b : Bool) → (eqb (s % 2) 1 && equal v (get_or row i nan)) ≡ b → lowest_from row i s v ≡ i + cond b 0 (suc (lowest (columns_of (length row - (i + 1)) (s / 2) ∩ equal_to v (drop (i + 1) row))))
  unfolding lowest_from lowest first_at ◌∩◌ zip_with equal_to
  lowest-turn b e =
      ap₂ (λ (K : Columns) (r : List Float). i + lowest (K ∩ equal_to v r)) (split (length row) i s h (eqb (s % 2) 1) refl) (drop-cons row i nan h ∙ ap (λ (n : ℕ). get_or row i nan ∷ drop n row) (sym (add-one i)))
      ∙ ap (λ (d : Bool). i + cond d 0 (suc (lowest (columns_of (length row - (i + 1)) (s / 2) ∩ equal_to v (drop (i + 1) row))))) e

  pub lowest-hit : (t : ℕ) → (eqb (s % 2) 1 && equal v (get_or row i nan)) ≡ true → lowest_from row i s v ≡ t → i ≡ t
  lowest-hit t e g = omega (arith, lowest-turn true e)

  pub lowest-on : (t : ℕ) → (eqb (s % 2) 1 && equal v (get_or row i nan)) ≡ false → lowest_from row i s v ≡ t → lowest_from row (i + 1) (s / 2) v ≡ t
  unfolding lowest_from
  lowest-on t e g = omega (arith, lowest-turn false e)

pub lowest-out : (row : List Float) (i s t : ℕ) (v : Float) → i ≤ length row → length row ≤ i → lowest_from row i s v ≡ t → length row ≡ t
unfolding lowest_from columns_of ◌∩◌ zip_with lowest first_at
lowest-out row i s t v l h g = let e : length row - i ≡ 0 = omega arith in omega (arith, ap (λ (n : ℕ). lowest (columns_of n s ∩ equal_to v (drop i row))) e)

pub lowest_start : (row : List Float) (s : ℕ) (v : Float) → lowest_from row 0 s v ≡ lowest (columns_of (length row) s ∩ equal_to v row)
unfolding lowest_from
lowest_start row s v = let e : length row - 0 ≡ length row = omega arith in omega (arith, ap (λ (n : ℕ). lowest (columns_of n s ∩ equal_to v row)) e)

-- ---- all columns

pub full-32 : (cols : ℕ) → cols ≡ 32 → 4294967295 ≡ full_mask cols
full-32 cols e = ap full_mask (sym e)
