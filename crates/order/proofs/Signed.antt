-- Signed numbers in the bits of a width.
--   mag-abs, abs_mag            what a number needs of a width, by its distance from zero
--   abs-fits                    a number whose distance from zero is below half of a width's range fits the width
--   below-zero, from_zero       what the test for a negative number tells
--   wide_fits, wide_is          an i32 as an i64
--   kept                        a number that fits, written as bits and read again
--   negative, not_negative      the test for a negative number, made of the number that is read
--   minus-fits, minus_is        zero minus a negative number is its distance from zero
--   kept-is                     any other number is its own
--   casts                       a distance from zero as an unsigned number
use Prim.Native.Nat.{◌+◌, ◌≤◌, ◌<◌, ◌^◌}
use native.Mathlib.Omega.{arith}
use mathlib.Core.Path.{◌≡◌, refl, sym, ap, ◌∙◌}
use mathlib.Core.Bool.{Bool, true, false}
use lib.Dec.{T}
use lib.IntN.{ℤ, pos, negsuc, nat_abs, ◌-ℤ◌}
use lib.Signed.{mag, lt_z, non_neg}
use borrow.Author.Tests.{ltb-true}
use mir.Syntax.{Width, w32, w64}
use mir.Val.{hbits, Fits, SFits, to_z, of_z}
use mir.Facts.{to_z-of_z, sfits_widen}
use mir.ValLaws.{half_full}
use Rattle.order.proofs.Booleans.{never}

-- ---- a number

pub mag-abs : (z : ℤ) → mag z ≤ nat_abs z
mag-abs (pos n) = omega arith
mag-abs (negsuc n) = omega arith

pub abs_mag : (z : ℤ) → nat_abs z ≤ mag z + 1
abs_mag (pos n) = omega arith
abs_mag (negsuc n) = omega arith

pub abs-fits : (w : Width) (z : ℤ) → nat_abs z < 2 ^ hbits w → SFits w z
abs-fits w z h = record { sfits = omega (arith, mag-abs z) }

pub below-zero : (z : ℤ) → lt_z z (pos 0) ≡ true → z ≡ negsuc (mag z)
below-zero (pos n) t = absurd (omega (arith, ltb-true n 0 t))
below-zero (negsuc n) t = refl

pub from_zero : (z : ℤ) → lt_z z (pos 0) ≡ false → z ≡ pos (nat_abs z)
from_zero (pos n) t = refl
from_zero (negsuc n) t = absurd (never true t tt)

away : (z : ℤ) → lt_z z (pos 0) ≡ true → pos 0 -ℤ z ≡ pos (nat_abs z)
away (pos n) t = absurd (omega (arith, ltb-true n 0 t))
away (negsuc n) t = ap pos (omega arith)

-- ---- an i32 as an i64

module _ (d : ℤ) (f : SFits w32 d) where
  pub wide_fits : SFits w64 (to_z w32 (of_z w32 d))
  wide_fits = rw (to_z-of_z f) (sfits_widen {w = w32} {w' = w64} tt f)

  pub wide_is : to_z w64 (of_z w64 (to_z w32 (of_z w32 d))) ≡ d
  wide_is = to_z-of_z wide_fits ∙ to_z-of_z f

-- ---- a number as it is read from its bits

module _ (w : Width) (z : ℤ) (h : nat_abs z < 2 ^ hbits w) where
  pub kept : to_z w (of_z w z) ≡ z
  kept = to_z-of_z (abs-fits w z h)

  tested : (b : Bool) → lt_z (to_z w (of_z w z)) (pos 0) ≡ b → lt_z z (pos 0) ≡ b
  tested b t = ap (λ (y : ℤ). lt_z y (pos 0)) (sym kept) ∙ t

  module _ (t : lt_z (to_z w (of_z w z)) (pos 0) ≡ true) where
    pub negative : z ≡ negsuc (mag z)
    negative = below-zero z (tested true t)

    turned : pos 0 -ℤ to_z w (of_z w z) ≡ pos (nat_abs z)
    turned = ap (λ (y : ℤ). pos 0 -ℤ y) kept ∙ away z (tested true t)

    pub minus-fits : SFits w (pos 0 -ℤ to_z w (of_z w z))
    minus-fits = rw turned (record { sfits = h })

    pub minus_is : to_z w (of_z w (pos 0 -ℤ to_z w (of_z w z))) ≡ pos (nat_abs z)
    minus_is = to_z-of_z minus-fits ∙ turned

  module _ (t : lt_z (to_z w (of_z w z)) (pos 0) ≡ false) where
    pub not_negative : z ≡ pos (nat_abs z)
    not_negative = from_zero z (tested false t)

    pub kept-is : to_z w (of_z w z) ≡ pos (nat_abs z)
    kept-is = kept ∙ not_negative

  pub casts : (y : ℤ) → y ≡ pos (nat_abs z) → T (non_neg y) × Fits w (nat_abs y)
  casts y e = rw e (tt, record { fits = half_full w h })
