-- Powers of two in the bits of a width.
--   bit_is       one, shifted by less than the width
--   pow-parts    a power in two parts
--   top-room     what lies above the lowest bits of a number leaves room for them
use Prim.Native.Nat.{ℕ, ◌+◌, ◌-◌, ◌*◌, ◌/◌, ◌%◌, ◌^◌, ◌≤◌, ◌<◌}
use native.Mathlib.Omega.{arith}
use native.Mathlib.Nat.{one-mul, suc-mul, mod-eq_of_lt, mul-le-mul_right, div-lt_iff_lt-mul}
use mathlib.Core.Path.{◌≡◌, sym, ap, ◌∙◌}
use lib.Pow.{pow_pos, pow-lt, pow-add}

pub bit_is : (w j : ℕ) → j < w → 1 * 2 ^ j % 2 ^ w ≡ 2 ^ j
bit_is w j h = rw one-mul (mod-eq_of_lt {m = 2 ^ w} (pow-lt h))

pub pow-parts : (w o : ℕ) → o ≤ w → 2 ^ (w - o) * 2 ^ o ≡ 2 ^ w
pow-parts w o h = let e : w - o + o ≡ w = omega arith in sym (pow-add 2 (w - o) o) ∙ ap (λ (z : ℕ). 2 ^ z) e

pub top-room : (w o a : ℕ) → o ≤ w → a < 2 ^ w → a / 2 ^ o * 2 ^ o + 2 ^ o ≤ 2 ^ w
top-room w o a h l =
    let e = pow-parts w o h in
    let q : a / 2 ^ o < 2 ^ (w - o) = (div-lt_iff_lt-mul (pow_pos o)).1 (omega (arith, e)) in
    omega (arith, e, suc-mul (a / 2 ^ o) (2 ^ o), mul-le-mul_right (2 ^ o) q)
