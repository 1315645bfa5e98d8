-- Laws of levels.
--   level-fits      M times a fits
--   level-some      b is not zero
use Prim.Native.Nat.{ℕ, ◌*◌, ◌^◌, ◌≤◌, ◌<◌}
use native.Mathlib.Nat.{mul-le-mul_right}
use native.Mathlib.Omega.{arith}
use mathlib.Core.Path.{◌≡◌}
use mathlib.Core.Bool.{false}
use Rattle.limits.specs.Limits.{table_rows_most}
use Rattle.refusals.specs.Limits.{bad_level}
use Rattle.refusals.proofs.Limits.{level}

pub level-fits : (rows a b : ℕ) → rows ≤ table_rows_most → bad_level a b ≡ false → rows * a < 2 ^ 64
level-fits rows a b h k = let l = level a b k in omega (arith, mul-le-mul_right a h, l.proper, l.b-most)

pub level-some : (a b : ℕ) → bad_level a b ≡ false → 0 < b
level-some a b h = omega (arith, (level a b h).proper)
