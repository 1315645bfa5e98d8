-- What it is to pass the conditions that tables and trials share.
--   neither, within, inside, or-none     conditions joined by "or", and numbers in their range
--   positive               a number that is not 0 is above 0
--   Fitting, fitting       what it is to pass 4 by the columns and k
--   Sizes, sizes           what it is to pass 4 with the rows
--   Level, level           what it is to pass 3
--   allowance-lt           e is below M
use Prim.Native.Nat.{ℕ, zero, suc, ◌*◌, ◌≤◌, ◌<◌}
use native.Mathlib.Omega.{arith}
use native.Mathlib.Nat.{div-lt_iff_lt-mul, mul-lt-mul_of_pos_right, mul_comm}
use mathlib.Core.Path.{◌≡◌, refl, subst}
use mathlib.Core.Bool.{Bool, true, false, ◌||◌, true≢false}
use lib.Dec.{ltb, leb, eqb}
use borrow.Author.Tests.{le-ltb, ltb-false, leb-false, eqb-false}
use Rattle.limits.specs.Limits.{tolerance_most, level_most}
use Rattle.refusals.specs.Limits.{outside, bad_columns, bad_sizes, bad_level, allowance}

pub positive : (m : ℕ) → (m ≡ 0 → ⊥) → 0 < m
positive zero f = absurd (f refl)
positive (suc m) f = omega arith

pub neither : {b c : Bool} → b ≡ false → c ≡ false → (b || c) ≡ false
neither e f = rw (e, f)

pub or-none : (b c : Bool) → (b || c) ≡ false → (b ≡ false) × (c ≡ false)
or-none true c h = absurd (true≢false h)
or-none false c h = (refl, h)

pub within : (low high n : ℕ) → low ≤ n → n ≤ high → outside low high n ≡ false
within low high n h k = neither (le-ltb n low h) (le-ltb high n k)

pub inside : (low high n : ℕ) → outside low high n ≡ false → (low ≤ n) × (n ≤ high)
inside low high n h = let f = or-none (ltb n low) (ltb high n) h in (ltb-false n low f.0, ltb-false high n f.1)

-- what it is to pass 4 with at most n columns
pub record Fitting (n columns k : ℕ) : Type 0 where
  pub columns-some : 1 ≤ columns
  pub columns-most : columns ≤ n
  pub k-some : 1 ≤ k
  pub k-most : k ≤ tolerance_most
  pub k-held : k ≤ columns

pub fitting : (n columns k : ℕ) → bad_columns n columns k ≡ false → Fitting n columns k
unfolding bad_columns
fitting n columns k h =
    let g = or-none (outside 1 n columns) (outside 1 tolerance_most k || ltb columns k) h in
    let i = or-none (outside 1 tolerance_most k) (ltb columns k) g.1 in
    let c = inside 1 n columns g.0 in
    let j = inside 1 tolerance_most k i.0 in
    record { columns-some = c.0; columns-most = c.1; k-some = j.0; k-most = j.1; k-held = ltb-false columns k i.1 }

-- what it is to pass 4 with at most m rows and n columns
pub record Sizes (m n rows columns k : ℕ) : Type 0 where
  pub rows-some : 1 ≤ rows
  pub rows-most : rows ≤ m
  pub columns-some : 1 ≤ columns
  pub columns-most : columns ≤ n
  pub k-some : 1 ≤ k
  pub k-most : k ≤ tolerance_most
  pub k-held : k ≤ columns

pub sizes : (m n rows columns k : ℕ) → bad_sizes m n rows columns k ≡ false → Sizes m n rows columns k
unfolding bad_sizes
sizes m n rows columns k h =
    let f = or-none (outside 1 m rows) (bad_columns n columns k) h in
    let r = inside 1 m rows f.0 in
    let c = fitting n columns k f.1 in
    record { rows-some = r.0; rows-most = r.1; columns-some = c.columns-some; columns-most = c.columns-most; k-some = c.k-some; k-most = c.k-most; k-held = c.k-held }

pub record Level (a b : ℕ) : Type 0 where
  pub a-some : 0 < a
  pub proper : a < b
  pub b-most : b ≤ level_most

pub level : (a b : ℕ) → bad_level a b ≡ false → Level a b
unfolding bad_level
level a b h =
    let f = or-none (eqb a 0) (eqb b 0 || (leb b a || ltb level_most b)) h in
    let g = or-none (eqb b 0) (leb b a || ltb level_most b) f.1 in
    let i = or-none (leb b a) (ltb level_most b) g.1 in
    record { a-some = positive a (eqb-false a 0 f.0); proper = leb-false b a i.0; b-most = ltb-false level_most b i.1 }

pub allowance-lt : (M a b : ℕ) → 0 < M → a < b → allowance M a b < M
unfolding allowance
allowance-lt M a b m h = (div-lt_iff_lt-mul {k = b} (omega arith)).1 (subst (λ (x : ℕ). x < M * b) (mul_comm a M) (subst (λ (x : ℕ). a * M < x) (mul_comm b M) (mul-lt-mul_of_pos_right h m)))
