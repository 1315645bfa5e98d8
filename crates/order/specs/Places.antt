-- The 64-bit order: each finite f64 has its place, a 64-bit number, and stands lower exactly when it is smaller. Definitions only.
--   bits_place b    the place of a bit pattern: the sign's bit set where it is clear, and all bits turned where it is set
--   place x         the place of a value: that of its bits, and minus zero takes the place of zero
--   bits_at p        the bit pattern at a place
--   value_at p       the value at a place; at the one below zero's, where no value stands, minus zero; minus infinity below the finite values' places, and infinity above them
use Rattle.std.specs.Prelude.{ℕ, ◌+◌, ◌-◌, ◌^◌, true, false, cond, ltb, leb, Float}
use Rattle.std.specs.Float.{inf, binary64}
use Rattle.std.specs.Float.Ieee.{to_bits, of_bits}
use Rattle.order.specs.Order.{with_plus_zero}

unfoldable pub bits_place : ℕ → ℕ
bits_place b = cond (ltb b (2 ^ 63)) (b + 2 ^ 63) (2 ^ 64 - 1 - b)

unfoldable pub place : Float → ℕ
unfolding bits_place with_plus_zero to_bits
place x = bits_place (to_bits binary64 (with_plus_zero x))

unfoldable pub bits_at : ℕ → ℕ
bits_at p = cond (ltb p (2 ^ 63)) (2 ^ 64 - 1 - p) (p - 2 ^ 63)

unfoldable pub value_at : ℕ → Float
unfolding place bits_at of_bits
value_at p = cond (leb (place (inf false)) p) (inf false) (cond (leb p (place (inf true))) (inf true) (of_bits binary64 (bits_at p)))
