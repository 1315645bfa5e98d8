-- Magnitudes in bit patterns, in any format.
--   packed          a magnitude as it stands in a pattern, below the sign's bit; pattern: a value's pattern is its sign and that
--   packed-lower    a smaller magnitude stands lower
--   packed-top      the sign's bit lies above them all; packed-bound: and so does infinity's pattern
--   fits-sign       whether a format holds a number is no matter of its sign
use Prim.Native.Nat.{ℕ, zero, suc, ◌+◌, ◌-◌, ◌*◌, ◌/◌, ◌%◌, ◌^◌, ◌≤◌, ◌<◌}
use native.Mathlib.Omega.{arith}
use native.Mathlib.Nat.{mul-le-mul_right, suc-mul, le-div_iff_mul-le, mod-eq_of_lt}
use native.Mathlib.Decide.{dec_lt}
use mathlib.Core.Path.{◌≡◌, refl, sym, ap, ◌∙◌}
use mathlib.Core.Bool.{Bool, true, false, cond}
use lib.IntN.{ℤ}
use lib.Dec.{T}
use lib.Pow.{pow_pos, pow-add, shr_mono}
use lib.Ieee.{Float, nan, inf, fin, Format, binary32, binary64, prec, hid, top, ones, size, to_bits, of_bits, fits, is_nan, nan_bits}
use lib.Ieee.Digits.{size-lt, size_reaches, size-le}
use lib.Ieee.Fits.{kept-lt, inf-fits}
use lib.Ieee.Bits.{of_bits-to_bits, to_bits-lt, nan_bits_is, nan_bits_above}
use borrow.Author.Tests.{ltb-false}
use Rattle.order.proofs.Booleans.{not_within}
use Rattle.order.proofs.Keys.{mag}

abbrev pub packed : Format → ℕ → ℕ
packed f n = (size n - prec f) * hid f + n / 2 ^ (size n - prec f)

two-hid : (f : Format) → 2 ^ prec f ≡ 2 * hid f
two-hid binary32 = refl
two-hid binary64 = refl

some-prec : (f : Format) → 0 < prec f
some-prec binary32 = omega arith
some-prec binary64 = omega arith

-- larger magnitudes stand no lower
module _ (f : Format) (a b : ℕ) (h : a ≤ b) where
  sizes : size a ≤ size b
  sizes = size-le a (size b) (omega (arith, size-lt b))

  full : size a - prec f < size b - prec f → hid f ≤ b / 2 ^ (size b - prec f)
  full g =
      let p = some-prec f in
      let e : prec f - 1 + (size b - prec f) ≡ size b - 1 = omega arith in
      let r : 2 ^ (size b - 1) ≤ b = size_reaches b (size b - 1) (omega arith) in
      (le-div_iff_mul-le (pow_pos (size b - prec f))).1 (rw (← pow-add 2 (prec f - 1) (size b - prec f), e) r)

  packed-rises : packed f a ≤ packed f b
  packed-rises = go (dec_lt (size a - prec f) (size b - prec f))
    where
      go : Dec (size a - prec f < size b - prec f) → packed f a ≤ packed f b
      go (yes g) = omega (arith, full g, two-hid f, kept-lt (prec f) a, mul-le-mul_right (hid f) g, suc-mul (size a - prec f) (hid f))
      go (no g) =
          let e : size a - prec f ≡ size b - prec f = omega (arith, g, sizes) in
          rw e (omega (arith, shr_mono (size b - prec f) h))

-- values of one sign with one pattern are one value, so that larger magnitudes stand higher
magnitude : Format → Float → ℕ
magnitude f nan = 0
magnitude f (inf s) = 0
magnitude f (fin s m e) = mag f m e

pub pattern : (f : Format) (s : Bool) (m : ℕ) (e : ℤ) → to_bits f (fin s m e) ≡ cond s (top f) 0 + packed f (mag f m e)
unfolding to_bits
pattern f s m e = omega arith

module _ (f : Format) (s : Bool) (m : ℕ) (e : ℤ) (n : ℕ) (d : ℤ) (t : T (fits f (fin s m e))) (u : T (fits f (fin s n d))) where
  one-pattern : packed f (mag f m e) ≡ packed f (mag f n d) → mag f m e ≡ mag f n d
  unfolding magnitude
  one-pattern q =
      let bits : to_bits f (fin s m e) ≡ to_bits f (fin s n d) = pattern f s m e ∙ ap (λ (z : ℕ). cond s (top f) 0 + z) q ∙ sym (pattern f s n d) in
      ap (magnitude f) (sym (of_bits-to_bits f (fin s m e) t) ∙ ap (of_bits f) bits ∙ of_bits-to_bits f (fin s n d) u)

  pub packed-lower : mag f m e < mag f n d → packed f (mag f m e) < packed f (mag f n d)
  packed-lower h = not_within (packed f (mag f n d)) (packed f (mag f m e)) (λ g. omega (arith, one-pattern (omega (arith, packed-rises f (mag f m e) (mag f n d) (omega arith)))))

-- ---- finite values stay below the pattern of infinity

pub fits-sign : (f : Format) (s t : Bool) (m : ℕ) (e : ℤ) → T (fits f (fin s m e)) → T (fits f (fin t m e))
unfolding fits
fits-sign f s t zero e h = h
fits-sign f s t (suc m) e h = h

module _ (f : Format) (m : ℕ) (e : ℤ) (t : T (fits f (fin false m e))) where
  pub packed-top : packed f (mag f m e) < top f
  packed-top = omega (arith, pattern f true m e, to_bits-lt f (fin true m e) (fits-sign f false true m e t))

  no_nan : nan_bits f (to_bits f (fin false m e)) ≡ false
  unfolding is_nan
  no_nan = nan_bits_is f (to_bits f (fin false m e)) ∙ ap is_nan (of_bits-to_bits f (fin false m e) t)

  not-infinity : packed f (mag f m e) ≡ ones f * hid f → ⊥
  unfolding to_bits
  not-infinity q =
      let bits : to_bits f (fin false m e) ≡ to_bits f (inf false) = pattern f false m e ∙ ap (λ (z : ℕ). 0 + z) q in
      let same : fin false m e ≡ inf false = sym (of_bits-to_bits f (fin false m e) t) ∙ ap (of_bits f) bits ∙ of_bits-to_bits f (inf false) (inf-fits f false) in
      let z : ◌≡◌ {A = ℕ} 0 1 = cc in
      omega arith

  pub packed-bound : packed f (mag f m e) < ones f * hid f
  packed-bound =
      let bits : to_bits f (fin false m e) ≡ packed f (mag f m e) = omega (arith, pattern f false m e) in
      let rest : to_bits f (fin false m e) % top f ≡ packed f (mag f m e) = ap (λ (z : ℕ). z % top f) bits ∙ mod-eq_of_lt packed-top in
      let up_to : packed f (mag f m e) ≤ ones f * hid f = rw (← rest) (ltb-false (ones f * hid f) (to_bits f (fin false m e) % top f) (sym (nan_bits_above f (to_bits f (fin false m e))) ∙ no_nan)) in
      not_within (ones f * hid f) (packed f (mag f m e)) (λ g. not-infinity (omega arith))
