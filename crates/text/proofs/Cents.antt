-- Laws of a critical value that is a whole number of cents.
--   cents-small              an i64 holds it
--   cents-exact              nothing is cut off
--   cents-text               what std writes of it as an i64 is its text
use Prim.Native.Nat.{◌<◌, ◌^◌}
use native.Mathlib.Omega.{arith}
use mathlib.Core.Path.{◌≡◌, ap, ◌∙◌}
use lib.Dec.{T, leb→le, ltb→lt}
use lib.IntN.{ℤ, pos, negsuc, nat_abs}
use lib.Ieee.{Float, binary64, fits, in_signed, in_float, of_int}
use lib.Ieee.Back.{Float-back_signed}
use mir.Syntax.{w64}
use mir.Val.{to_z, of_z}
use Rattle.std.specs.Fmt as fmt
use Rattle.order.proofs.Signed.{kept}
use Rattle.text.specs.Text.{decimal_int, cents}
use Rattle.text.proofs.Numbers.{decimal_int-is}

module _ (c : Float) (f : T (fits binary64 c)) (w : T (in_signed binary64 63 c)) where
  cents-small : nat_abs (cents c) < 2 ^ 63
  unfolding in_float
  cents-small = small (cents c) (Float-back_signed binary64 63 c f w).0
    where
      small : (z : ℤ) → T (in_float binary64 z) → nat_abs z < 2 ^ 63
      small (pos n) t = omega (arith, leb→le n (2 ^ 53) t)
      small (negsuc n) t = omega (arith, ltb→lt n (2 ^ 53) t)

  pub cents-exact : of_int binary64 (cents c) ≡ c
  cents-exact = (Float-back_signed binary64 63 c f w).1

  pub cents-text : fmt.signed_decimal (to_z w64 (of_z w64 (cents c))) ≡ decimal_int (cents c)
  cents-text = ap fmt.signed_decimal (kept w64 (cents c) cents-small) ∙ decimal_int-is (cents c) cents-small
