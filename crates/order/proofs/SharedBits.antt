-- Patterns that share their top bits have places that share theirs.
--   place-shares     of a finite value's pattern and any other
use Prim.Native.Nat.{ℕ, suc, ◌+◌, ◌-◌, ◌*◌, ◌/◌, ◌%◌, ◌^◌, ◌≤◌, ◌<◌}
use native.Mathlib.Omega.{arith}
use native.Mathlib.Nat.{suc-mul, le-div_iff_mul-le, mod-lt, add-mul, div-eq_of_lt, div-lt_iff_lt-mul, add-mul-div_right}
use native.Mathlib.Decide.{dec_lt}
use mathlib.Core.Path.{◌≡◌, sym, ap, ◌∙◌}
use mathlib.Core.Bool.{cond}
use lib.Dec.{T, ltb}
use lib.Pow.{pow_pos, split, high}
use lib.Ieee.{Float, binary64, to_bits}
use lib.Ieee.Bits.{to_bits-lt}
use borrow.Author.Tests.{lt-ltb, le-ltb}
use Rattle.order.specs.Order.{finite, with_plus_zero}
use Rattle.order.specs.Places.{bits_place, place}
use Rattle.order.proofs.Powers.{pow-parts}
use Rattle.order.proofs.Infinities.{finite-fits}
use Rattle.order.proofs.Keys.{with_plus_zero-finite}
use Rattle.order.proofs.Places.{place-fits}

-- the top bits of a pattern's place, from the pattern's
abbrev top_place : ℕ → ℕ → ℕ
top_place o q = cond (ltb q (2 ^ (63 - o))) (q + 2 ^ (63 - o)) (2 ^ (64 - o) - 1 - q)

module _ (o b : ℕ) (h : o ≤ 63) (l : b < 2 ^ 64) where
  -- all bits turned, the top bits are turned
  turned-top : (2 ^ 64 - 1 - b) / 2 ^ o ≡ 2 ^ (64 - o) - 1 - b / 2 ^ o
  turned-top =
      let w = 2 ^ o in
      let q = b / w in
      let s = 2 ^ (64 - o) - 1 - q in
      let r = b % w in
      let p = pow_pos o in
      let k : r < w = mod-lt b p in
      let g : q < 2 ^ (64 - o) = (div-lt_iff_lt-mul p).1 (omega (arith, pow-parts 64 o (omega arith))) in
      let e : (s + suc q) * w ≡ 2 ^ 64 = ap (λ (z : ℕ). z * w) (omega arith) ∙ pow-parts 64 o (omega arith) in
      ap (λ (z : ℕ). z / w) (omega (arith, e, add-mul s (suc q) w, suc-mul q w, split b o)) ∙ high s o {lo = w - 1 - r} (omega arith)

  top-place : bits_place b / 2 ^ o ≡ top_place o (b / 2 ^ o)
  unfolding bits_place
  top-place = go (dec_lt b (2 ^ 63))
    where
      go : Dec (b < 2 ^ 63) → cond (ltb b (2 ^ 63)) (b + 2 ^ 63) (2 ^ 64 - 1 - b) / 2 ^ o ≡ top_place o (b / 2 ^ o)
      go (yes g) =
          rw (lt-ltb b (2 ^ 63) g, lt-ltb (b / 2 ^ o) (2 ^ (63 - o)) ((div-lt_iff_lt-mul (pow_pos o)).1 (omega (arith, pow-parts 63 o h))))
          (ap (λ (z : ℕ). (b + z) / 2 ^ o) (sym (pow-parts 63 o h)) ∙ add-mul-div_right b (2 ^ (63 - o)) (pow_pos o))
      go (no g) = rw (le-ltb b (2 ^ 63) (omega (arith, g)), le-ltb (b / 2 ^ o) (2 ^ (63 - o)) ((le-div_iff_mul-le (pow_pos o)).1 (omega (arith, pow-parts 63 o h, g)))) turned-top

bits_place-fits : (b : ℕ) → b < 2 ^ 64 → bits_place b < 2 ^ 64
unfolding bits_place
bits_place-fits b l = go (dec_lt b (2 ^ 63))
  where
    go : Dec (b < 2 ^ 63) → cond (ltb b (2 ^ 63)) (b + 2 ^ 63) (2 ^ 64 - 1 - b) < 2 ^ 64
    go (yes g) = rw (lt-ltb b (2 ^ 63) g) (omega arith)
    go (no g) = rw (le-ltb b (2 ^ 63) (omega (arith, g))) (omega arith)

-- with no bit shared there is nothing to show
pub place-shares : (o : ℕ) → o ≤ 64 → (x : Float) → T (finite x) → (b : ℕ) → b < 2 ^ 64 → to_bits binary64 (with_plus_zero x) / 2 ^ o ≡ b / 2 ^ o → place x / 2 ^ o ≡ bits_place b / 2 ^ o
unfolding place
place-shares o h x u b l e = go (dec_lt o 64)
  where
    fit : to_bits binary64 (with_plus_zero x) < 2 ^ 64
    fit = to_bits-lt binary64 (with_plus_zero x) (finite-fits (with_plus_zero x) (with_plus_zero-finite x u))

    go : Dec (o < 64) → place x / 2 ^ o ≡ bits_place b / 2 ^ o
    go (yes g) = top-place o (to_bits binary64 (with_plus_zero x)) (omega arith) fit ∙ ap (top_place o) e ∙ sym (top-place o b (omega arith) l)
    go (no g) = let q : o ≡ 64 = omega (arith, g) in rw q (div-eq_of_lt (place-fits x u) ∙ sym (div-eq_of_lt (bits_place-fits b l)))
