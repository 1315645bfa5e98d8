-- The state before step 1: nothing is rejected, all live columns are left.
--   first-empty, first-left    nothing is rejected; what is left is live
--   first-open                 where a step is to come, k or more are live
--   table-open                 at a table's beginning all columns are live
use Prim.Native.Nat.{ℕ, zero, suc, ◌/◌, ◌%◌, ◌≤◌}
use native.Mathlib.Omega.{arith}
use mathlib.Core.Path.{◌≡◌, refl, ap, ◌∙◌}
use mathlib.Core.Bool.{Bool, true, false, ◌&&◌}
use mathlib.Core.List.{zip_with}
use lib.Dec.{ltb, eqb}
use borrow.Author.Tests.{ltb-false, le-ltb}
use Rattle.order.specs.Counting.{bit, count}
use Rattle.columns.specs.Columns.{size, ◌∖◌, columns_of, full_mask}
use Rattle.columns.proofs.Sets.{has, size-all}
use Rattle.columns.proofs.Masks.{columns_of-zero, full-columns}
use Rattle.runs.specs.Stepdown.{rejected_set, first_state, left_over}

whole : (n s : ℕ) → size (columns_of n s ∖ columns_of n 0) ≡ size (columns_of n s)
unfolding columns_of ◌∖◌ zip_with size count
whole zero s = refl
whole (suc n) s = omega (arith, same (eqb (s % 2) 1), whole n (s / 2))
  where
    same : (b : Bool) → bit (b && true) ≡ bit b
    same true = refl
    same false = refl

module _ (rows columns k e observed live : ℕ) where
  pub first-empty : (j : ℕ) → has (rejected_set (first_state rows columns k e observed live)) j ≡ false
  first-empty j = columns_of-zero columns j

  pub first-left : size (left_over (first_state rows columns k e observed live)) ≡ size (columns_of columns live)
  first-left = whole columns live

  pub first-open : (first_state rows columns k e observed live).ended ≡ false → k ≤ size (columns_of columns live)
  first-open h = ltb-false (size (columns_of columns live)) k h

pub full_size : (n : ℕ) → size (columns_of n (full_mask n)) ≡ n
full_size n = ap size (full-columns n) ∙ size-all n

pub table-open : (columns k : ℕ) → k ≤ columns → ltb (size (columns_of columns (full_mask columns))) k ≡ false
table-open columns k h = le-ltb (size (columns_of columns (full_mask columns))) k (omega (arith, full_size columns))
