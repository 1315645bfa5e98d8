-- Whole numbers as f64: up to 2^53 each is a finite value, and their order is that of the numbers.
--   whole-finite     a whole number is finite
--   whole-key        the key of one that is not negative
--   whole-at_most    their order
use Prim.Native.Nat.{ℕ, suc, ◌+◌, ◌*◌, ◌/◌, ◌^◌, ◌≤◌, ◌<◌}
use native.Mathlib.Omega.{arith}
use native.Mathlib.Nat.{mul-one, mul_assoc, mul_comm, mul-div_cancel, mul-lt-mul_of_pos_right, lt_of_mul-lt-mul_right}
use mathlib.Core.Path.{◌≡◌, sym, ap, ap₂, ◌∙◌}
use mathlib.Core.Logic.{◌↔◌}
use mathlib.Core.Bool.{Bool, true, false, not}
use lib.Dec.{T, leb}
use lib.IntN.{ℤ, pos, negsuc, nat_abs}
use lib.Pow.{pow_pos}
use lib.Ieee.{Float, nan, inf, fin, binary64, low, up, down, of_int, fits}
use lib.Ieee.Exact.{HasValue}
use lib.Ieee.Scale.{overflow}
use lib.Ieee.Back.{round_whole}
use lib.Ieee.Fits.{of_int-fits, down_pos}
use Rattle.order.specs.Order.{finite, at_most}
use Rattle.order.proofs.Booleans.{iff-ltb, leb-not}
use Rattle.order.proofs.Keys.{key, mag, signed, at_most-key}

value-finite : (x : Float) (s : Bool) (n : ℕ) → T (fits binary64 x) → HasValue x s n 1 → T (finite x)
unfolding finite
value-finite nan s n t h = absurd h
value-finite (inf r) s n t h = absurd h
value-finite (fin r m e) s n t h = t

pub whole-finite : (z : ℤ) → nat_abs z ≤ 2 ^ 53 → T (finite (of_int binary64 z))
unfolding of_int
whole-finite (pos n) h = value-finite (of_int binary64 (pos n)) false n (of_int-fits binary64 (pos n)) (round_whole binary64 false n h)
whole-finite (negsuc n) h = value-finite (of_int binary64 (negsuc n)) true (suc n) (of_int-fits binary64 (negsuc n)) (round_whole binary64 true (suc n) h)

-- ---- in order

value-mag : (m : ℕ) (e : ℤ) (n : ℕ) → m * up e * 1 ≡ n * down e → mag binary64 m e ≡ n * 2 ^ low binary64
value-mag m e n h =
    let L = 2 ^ low binary64 in
    ap (λ (z : ℕ). z * L / down e) (sym (mul-one (m * up e)) ∙ h)
    ∙ ap (λ (z : ℕ). z / down e) (mul_assoc n (down e) L ∙ ap (λ (z : ℕ). n * z) (mul_comm (down e) L) ∙ sym (mul_assoc n L (down e)))
    ∙ mul-div_cancel (n * L) (down_pos e)

value-key : (x : Float) (n : ℕ) → HasValue x false n 1 → key x ≡ overflow binary64 + n * 2 ^ low binary64
unfolding key
value-key nan n h = absurd h
value-key (inf s) n h = absurd h
value-key (fin s m e) n h = ap (λ (b : Bool). signed (overflow binary64) b (mag binary64 m e)) h.0 ∙ ap (λ (z : ℕ). overflow binary64 + z) (value-mag m e n h.1)

pub whole-key : (n : ℕ) → n ≤ 2 ^ 53 → key (of_int binary64 (pos n)) ≡ overflow binary64 + n * 2 ^ low binary64
unfolding of_int
whole-key n h = value-key (of_int binary64 (pos n)) n (round_whole binary64 false n h)

scaled : (o L m n : ℕ) → 0 < L → (o + m * L < o + n * L) ↔ (m < n)
scaled o L m n p = (λ h. lt_of_mul-lt-mul_right L (omega arith), λ h. let g = mul-lt-mul_of_pos_right h p in omega (arith, g))

pub whole-at_most : (m n : ℕ) → m ≤ 2 ^ 53 → n ≤ 2 ^ 53 → at_most (of_int binary64 (pos m)) (of_int binary64 (pos n)) ≡ leb m n
whole-at_most m n h k =
    let o = overflow binary64 in
    let L = 2 ^ low binary64 in
    at_most-key (of_int binary64 (pos m)) (of_int binary64 (pos n)) (whole-finite (pos m) h) (whole-finite (pos n) k)
    ∙ ap₂ leb (whole-key m h) (whole-key n k)
    ∙ leb-not (o + m * L) (o + n * L)
    ∙ ap not (iff-ltb (o + n * L) (o + m * L) n m (scaled o L n m (pow_pos (low binary64))))
    ∙ sym (leb-not m n)
