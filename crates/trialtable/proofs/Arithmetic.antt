-- Laws of whole numbers as the code adds and multiplies them.
--   float_fits          a whole number that is exact as an f64
--   figure_is, figure-small, twice_is     a figure as the code reads it, and twice that
--   sum-turn            a sum with one figure more
--   step-..             so many times a figure less the next one: it fits, is exact as an f64, and is what it says
--   contrast-..         the same of the contrast of two sums
use Prim.Native.Nat.{ℕ, zero, suc, ◌+◌, ◌*◌, ◌^◌, ◌≤◌, ◌<◌}
use native.Mathlib.Numerals.{add-one}
use native.Mathlib.Omega.{arith}
use native.Mathlib.Nat.{mul-le-mul}
use mathlib.Core.Path.{◌≡◌, sym, ap, ap₂, ◌∙◌}
use mathlib.Core.List.{List, [], ◌∷◌}
use lib.ListN.{length, get_or, take}
use lib.Dec.{T, le→leb, lt→ltb}
use lib.IntN.{ℤ, pos, negsuc, nat_abs, neg_ℤ, ◌+ℤ◌, ◌-ℤ◌, ◌*ℤ◌, +ℤ_assoc, +ℤ_comm}
use lib.Ieee.{binary64, in_float}
use mir.Syntax.{w32, w64}
use mir.Val.{SFits, to_z, of_z}
use mir.Facts.{to_z-of_z, to_z_pos}
use Rattle.limits.specs.Limits.{units_most}
use Rattle.order.proofs.Signed.{abs_mag, abs-fits, kept}
use Rattle.trial.specs.Choices.{sum_of}
use Rattle.trial.proofs.Sums.{abs-add, abs_neg}
use Rattle.trial.proofs.Contrasts.{abs-times}

in-float : (z : ℤ) → nat_abs z ≤ 2 ^ 53 → T (in_float binary64 z)
unfolding in_float
in-float (pos n) h = le→leb _ _ h
in-float (negsuc n) h = lt→ltb _ _ h

-- a number as the code has it in 64 bits
abbrev pub word : ℤ → ℤ
word z = to_z w64 (of_z w64 z)

pub word_is : (z : ℤ) → nat_abs z ≤ 2 ^ 53 → word z ≡ z
word_is z h = kept w64 z (omega arith)

pub float_fits : (z : ℤ) → nat_abs z ≤ 2 ^ 53 → T (in_float binary64 (word z))
float_fits z h = rw (word_is z h) (in-float z h)

-- a figure as the code reads it
module _ (x r : ℤ) (f : SFits w32 x) (e : r ≡ to_z w32 (of_z w32 x)) where
  figure_is : r ≡ x
  figure_is = e ∙ to_z-of_z f

  figure-small : nat_abs r ≤ 2147483648
  figure-small = rw figure_is (omega (arith, abs_mag x, f.sfits))

  pub twice_is : word (word r +ℤ word r) ≡ x +ℤ x
  twice_is =
      let q : word r ≡ x = word_is r (omega (arith, figure-small)) ∙ figure_is in
      ap word (ap₂ ◌+ℤ◌ q q) ∙ word_is (x +ℤ x) (omega (arith, abs-add x x, ap nat_abs figure_is, figure-small))

-- ---- a sum, figure by figure

sum-suc : (i : ℕ) (xs : List ℤ) → i < length xs → sum_of (take (suc i) xs) ≡ sum_of (take i xs) +ℤ get_or xs i (pos 0)
unfolding sum_of
sum-suc i [] h = absurd (omega arith)
sum-suc zero (x ∷ xs) h = +ℤ_comm x (pos 0)
sum-suc (suc i) (x ∷ xs) h = ap (λ (z : ℤ). x +ℤ z) (sum-suc i xs (omega arith)) ∙ sym (+ℤ_assoc x (sum_of (take i xs)) (get_or xs i (pos 0)))

sum_more : (i : ℕ) (xs : List ℤ) → i < length xs → sum_of (take (i + 1) xs) ≡ sum_of (take i xs) +ℤ get_or xs i (pos 0)
sum_more i xs h = rw add-one (sum-suc i xs h)

module _ (xs : List ℤ) (i : ℕ) (sum r : ℤ) (few : length xs ≤ units_most) (k : i < length xs) (f : SFits w32 (get_or xs i (pos 0))) (e : r ≡ to_z w32 (of_z w32 (get_or xs i (pos 0))))
    (is : sum ≡ sum_of (take i xs)) (h : nat_abs sum ≤ i * 2147483648) where
  small-sum : nat_abs (sum +ℤ r) ≤ (i + 1) * 2147483648
  small-sum = omega (arith, abs-add sum r, h, figure-small (get_or xs i (pos 0)) r f e)

  sum-word : word (sum +ℤ word r) ≡ sum +ℤ r
  sum-word = ap (λ (z : ℤ). word (sum +ℤ z)) (word_is r (omega (arith, figure-small (get_or xs i (pos 0)) r f e))) ∙ word_is (sum +ℤ r) (omega (arith, small-sum, few, k))

  pub sum-turn : (word (sum +ℤ word r) ≡ sum_of (take (i + 1) xs)) × (nat_abs (word (sum +ℤ word r)) ≤ (i + 1) * 2147483648)
  sum-turn = (sum-word ∙ ap₂ ◌+ℤ◌ is (figure_is (get_or xs i (pos 0)) r f e) ∙ sym (sum_more i xs k), rw sum-word small-sum)

-- ---- so many times a figure less the next one

module _ (n : ℕ) (x y r s : ℤ) (hn : n ≤ units_most) (fx : SFits w32 x) (fy : SFits w32 y) (ex : r ≡ to_z w32 (of_z w32 x)) (ey : s ≡ to_z w32 (of_z w32 y)) where
  small-difference : nat_abs (r -ℤ s) ≤ 4294967296
  small-difference = omega (arith, abs-add r (neg_ℤ s), abs_neg s, figure-small x r fx ex, figure-small y s fy ey)

  small-product : nat_abs (pos n *ℤ (r -ℤ s)) ≤ 42949672960
  small-product = omega (arith, abs-times n (r -ℤ s), mul-le-mul hn small-difference)

  difference : word (word r -ℤ word s) ≡ r -ℤ s
  difference = ap word (ap₂ ◌-ℤ◌ (word_is r (omega (arith, figure-small x r fx ex))) (word_is s (omega (arith, figure-small y s fy ey)))) ∙ word_is (r -ℤ s) (omega (arith, small-difference))

  product : to_z w64 n *ℤ word (word r -ℤ word s) ≡ pos n *ℤ (r -ℤ s)
  product = ap₂ ◌*ℤ◌ (to_z_pos w64 (omega arith)) difference

  pub step-fits : SFits w64 (to_z w64 n *ℤ word (word r -ℤ word s))
  step-fits = rw product (abs-fits w64 (pos n *ℤ (r -ℤ s)) (omega (arith, small-product)))

  pub step-float : T (in_float binary64 (word (to_z w64 n *ℤ word (word r -ℤ word s))))
  step-float = rw product (float_fits (pos n *ℤ (r -ℤ s)) (omega (arith, small-product)))

  pub step-is : word (to_z w64 n *ℤ word (word r -ℤ word s)) ≡ pos n *ℤ (x -ℤ y)
  step-is =
      ap word product ∙ word_is (pos n *ℤ (r -ℤ s)) (omega (arith, small-product))
      ∙ ap₂ (λ (u v : ℤ). pos n *ℤ (u -ℤ v)) (figure_is x r fx ex) (figure_is y s fy ey)

-- ---- the contrast of two sums of n figures

module _ (n : ℕ) (x : ℤ) (hn : n ≤ units_most) (hx : nat_abs x ≤ 21474836480) where
  times-small : nat_abs (pos n *ℤ x) ≤ 214748364800
  times-small = omega (arith, abs-times n x, mul-le-mul hn hx)

  times-word : to_z w64 n *ℤ word x ≡ pos n *ℤ x
  times-word = ap₂ ◌*ℤ◌ (to_z_pos w64 (omega arith)) (word_is x (omega (arith, hx)))

  times-is : word (to_z w64 n *ℤ word x) ≡ pos n *ℤ x
  times-is = ap word times-word ∙ word_is (pos n *ℤ x) (omega (arith, times-small))

module _ (m n : ℕ) (x y : ℤ) (hm : m ≤ units_most) (hn : n ≤ units_most) (hx : nat_abs x ≤ 21474836480) (hy : nat_abs y ≤ 21474836480) where
  contrast-small : nat_abs (pos m *ℤ x -ℤ pos n *ℤ y) ≤ 429496729600
  contrast-small = omega (arith, abs-add (pos m *ℤ x) (neg_ℤ (pos n *ℤ y)), abs_neg (pos n *ℤ y), times-small m x hm hx, times-small n y hn hy)

  both : word (to_z w64 m *ℤ word x) -ℤ word (to_z w64 n *ℤ word y) ≡ pos m *ℤ x -ℤ pos n *ℤ y
  both = ap₂ ◌-ℤ◌ (times-is m x hm hx) (times-is n y hn hy)

  pub contrast-fits : SFits w64 (word (to_z w64 m *ℤ word x) -ℤ word (to_z w64 n *ℤ word y))
  contrast-fits = rw both (abs-fits w64 (pos m *ℤ x -ℤ pos n *ℤ y) (omega (arith, contrast-small)))

  pub contrast-float : T (in_float binary64 (word (word (to_z w64 m *ℤ word x) -ℤ word (to_z w64 n *ℤ word y))))
  contrast-float = rw both (float_fits (pos m *ℤ x -ℤ pos n *ℤ y) (omega (arith, contrast-small)))

  pub contrast-is : word (word (to_z w64 m *ℤ word x) -ℤ word (to_z w64 n *ℤ word y)) ≡ pos m *ℤ x -ℤ pos n *ℤ y
  contrast-is = ap word both ∙ word_is (pos m *ℤ x -ℤ pos n *ℤ y) (omega (arith, contrast-small))
