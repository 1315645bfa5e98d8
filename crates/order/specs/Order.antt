-- Values compare as f64 numbers: minus zero and zero are equal. Definitions only.
--   smaller x y     x is smaller than y
--   at_most x y      x is smaller than y or equal to it
--   equal x y       x and y are equal as numbers
--   larger, lesser x y     the larger of two values, the first of equals; the other one
--   finite x        x is a finite f64: neither infinite nor no number
--   low x           x is finite or minus infinity: what a search for the largest value may hold
--   plus_zero       the zero that is given for either zero
--   with_plus_zero x    x, and plus zero for either zero
use Rattle.std.specs.Prelude.{zero, suc, Bool, false, cond, ◌&&◌, pos, Float}
use Rattle.std.specs.Float.{nan, inf, fin, binary64}
use Rattle.std.specs.Float.Ieee.{lt, le, fits}

abbrev pub smaller : Float → Float → Bool
smaller x y = lt x y

abbrev pub at_most : Float → Float → Bool
at_most x y = le x y

abbrev pub equal : Float → Float → Bool
equal x y = at_most x y && at_most y x

abbrev pub larger : Float → Float → Float
larger x y = cond (smaller x y) y x

abbrev pub lesser : Float → Float → Float
lesser x y = cond (smaller x y) x y

unfoldable pub finite : Float → Bool
unfolding fits
finite nan = false
finite (inf s) = false
finite (fin s m e) = fits binary64 (fin s m e)

abbrev pub low : Float → Bool
low nan = false
low (inf s) = s
low (fin s m e) = fits binary64 (fin s m e)

abbrev pub plus_zero : Float
plus_zero = fin false 0 (pos 0)

unfoldable pub with_plus_zero : Float → Float
with_plus_zero nan = nan
with_plus_zero (inf s) = inf s
with_plus_zero (fin s zero e) = plus_zero
with_plus_zero (fin s (suc m) e) = fin s (suc m) e
