-- What an accepted table is known to be.
--   size_fits          a size that passes 4 fits a usize
--   Shape, shape       what it is to pass 4
--   Accepted, accepted       what it is for a table to be accepted
--   table-..           the same for a full run, with its work buffer
use Prim.Native.Nat.{ℕ, ◌*◌, ◌^◌, ◌≤◌, ◌<◌}
use native.Mathlib.Nat.{mul-le-mul_right}
use native.Mathlib.Omega.{arith}
use mathlib.Core.Path.{◌≡◌, sym}
use mathlib.Core.Bool.{false}
use mathlib.Core.List.{List}
use lib.ListN.{length}
use lib.Dec.{eqb}
use lib.Ieee.{Float}
use borrow.Author.Tests.{ltb-false, leb-false, eqb-true, not-false}
use Rattle.order.specs.Order.{finite}
use Rattle.order.specs.Counting.{all}
use Rattle.order.specs.Lists.{rows_of}
use Rattle.order.proofs.Booleans.{true-T, or-passes}
use Rattle.order.proofs.Rows.{Finite, Sound, rows_of-sound}
use Rattle.refusals.specs.Buffers.{too_short}
use Rattle.refusals.specs.Limits.{bad_level, allowance}
use Rattle.refusals.proofs.Answers.{NoneHolds, none-holds, both-pass}
use Rattle.refusals.proofs.Limits.{Sizes, sizes, Level, level, allowance-lt}
use Rattle.masks.specs.Internal.{CheckedTable}
use Rattle.stepdown.specs.Runs.{begun}
use Rattle.stepdown.specs.Refusals.{bad_shape, bad_value, table_checks, table_refusal, table_run_refusal, bad_figures}

-- a table's size fits a usize
pub size_fits : (rows columns k : ℕ) → bad_shape rows columns k ≡ false → rows * columns < 2 ^ 64
size_fits rows columns k h = let s = sizes 4096 32 rows columns k h in omega (arith, mul-le-mul_right columns s.rows-most, s.columns-most)

abbrev pub Shape : ℕ → ℕ → ℕ → Type 0
Shape rows columns k = Sizes 4096 32 rows columns k

pub shape : (rows columns k : ℕ) → bad_shape rows columns k ≡ false → Shape rows columns k
shape rows columns k h = sizes 4096 32 rows columns k h

pub checked : (t : List Float) (rows columns k : ℕ) → Shape rows columns k → length t ≡ rows * columns → Finite t → CheckedTable t rows columns k
checked t rows columns k s h f = record { rows-most = s.rows-most; cols-most = s.columns-most; full = h; finitely = f; k-some = s.k-some; k-most = s.k-most }

-- where 9 and 11 do not hold
pub full-length : (t : List Float) (n : ℕ) → mathlib.Core.Bool.not (eqb (length t) n) ≡ false → length t ≡ n
full-length t n h = eqb-true (length t) n (not-false (eqb (length t) n) h)

pub all-finite : (t : List Float) → bad_value t ≡ false → Finite t
unfolding bad_value
all-finite t h = true-T (all finite t) (not-false (all finite t) h)

pub record Accepted (t : List Float) (rows columns k a b observed : ℕ) : Type 0 where
  pub shaped : Shape rows columns k
  pub levelled : Level a b
  pub full : length t ≡ rows * columns
  pub seen : observed < rows
  pub finitely : Finite t

module _ (t : List Float) (rows columns k a b observed : ℕ) where
  from-checks : NoneHolds (table_checks t rows columns k a b observed) → Accepted t rows columns k a b observed
  unfolding table_checks
  from-checks f = record {
    shaped = shape rows columns k f.0;
    levelled = level a b f.1.0;
    full = full-length t (rows * columns) f.1.1.0;
    seen = leb-false rows observed f.1.1.1.0;
    finitely = all-finite t f.1.1.1.1.0;
  }

  pub accepted : table_refusal t rows columns k a b observed ≡ 0 → Accepted t rows columns k a b observed
  unfolding table_refusal
  accepted h = from-checks (none-holds (table_checks t rows columns k a b observed) h)

  module _ (acc : Accepted t rows columns k a b observed) where
    pub accepted-sound : Sound columns (rows_of rows columns t)
    accepted-sound = rows_of-sound rows columns t acc.full acc.finitely

    -- e is below M
    pub accepted-rare : allowance rows a b < rows
    accepted-rare = allowance-lt rows a b acc.shaped.rows-some acc.levelled.proper

    pub accepted-checked : CheckedTable t rows columns k
    accepted-checked = checked t rows columns k acc.shaped acc.full acc.finitely

  -- ---- with a work buffer

  module _ (places : ℕ) (h : table_run_refusal t rows columns k a b observed places ≡ 0) where
    passed : NoneHolds (table_checks t rows columns k a b observed) × NoneHolds (too_short places rows)
    unfolding table_run_refusal
    passed = let f = both-pass (table_checks t rows columns k a b observed) (too_short places rows) h in (none-holds (table_checks t rows columns k a b observed) f.0, none-holds (too_short places rows) f.1)

    pub table-accepted : Accepted t rows columns k a b observed
    table-accepted = from-checks passed.0

    pub table-room : rows ≤ places
    table-room = ltb-false places rows passed.1.0

    pub table-level : bad_level a b ≡ false
    unfolding table_checks
    table-level = passed.0.1.0

    pub table-figures : bad_figures (begun rows columns k a b observed) ≡ false
    unfolding table_checks bad_figures
    table-figures = let f = passed.0 in sym (or-passes _ _ _ f.0 (or-passes _ _ _ f.1.0 (sym f.1.1.1.0)))
