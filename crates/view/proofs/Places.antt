-- Where a table has a value.
--   row-value       in a list of the table's length it is the member of the engine's rows
use Prim.Native.Nat.{ℕ, ◌+◌, ◌*◌, ◌<◌}
use native.Mathlib.Omega.{arith}
use mathlib.Core.Path.{◌≡◌, sym, ap, ◌∙◌}
use mathlib.Core.Bool.{Bool, cond, ◌&&◌}
use mathlib.Core.List.{List, []}
use lib.ListN.{length, get_or}
use lib.Dec.{ltb, lt→ltb}
use lib.Ieee.{Float, nan}
use Rattle.order.proofs.Booleans.{T_true, and_both}
use Rattle.std.proofs.Common.{Some, None}
use Rattle.order.specs.Lists.{rows_of}
use Rattle.order.proofs.Lists.{row-entry}
use Rattle.order.proofs.Lists.{part-rows}
use Rattle.view.specs.Entries.{entry_of}

module _ (xs : List Float) (rows columns row column : ℕ) where
  abbrev place : ℕ
  place = row * columns + column

  value-is : row < rows → column < columns → row * columns + column < length xs → Some (get_or xs (row * columns + column) nan) ≡ entry_of xs rows columns row column
  unfolding entry_of
  value-is r c l =
      ap (λ (b : Bool). cond b (Some (get_or xs place nan)) None)
      (sym (T_true (ltb row rows && (ltb column columns && ltb place (length xs))) (and_both (ltb row rows) _ (lt→ltb row rows r) (and_both (ltb column columns) _ (lt→ltb column columns c) (lt→ltb place (length xs) l)))))

-- a view of a whole table shows the values that the method looks at
pub row-value : (xs : List Float) (rows columns row column : ℕ) → length xs ≡ rows * columns → row < rows → column < columns → entry_of xs rows columns row column ≡ Some (get_or (get_or (rows_of rows columns xs) row []) column nan)
row-value xs rows columns row column full r c =
    sym (value-is xs rows columns row column r c (omega (arith, part-rows rows columns row r, full, c))) ∙ ap (λ (x : Float). Some x) (sym (row-entry xs rows columns row column nan r c))
