-- Examples of balanced tables: a table, and the balanced table that is told. Definitions only; proofs/Examples.antt states that they agree.
--   one, two, three, four     the ranks as f64 values
--   Example       a table with its rows and columns, and its balanced table
--   examples      all of them; the balanced tables of document 01's W and of a trial's are in crate tablebalance, with their full runs
use Rattle.std.specs.Prelude.{ℕ, true, false, List, [], ◌∷◌, pos, Float}
use Rattle.std.specs.Float.{fin}
use Rattle.order.specs.Order.{plus_zero}

abbrev pub one : Float
one = fin false 1 (pos 0)

abbrev pub two : Float
two = fin false 1 (pos 1)

abbrev pub three : Float
three = fin false 3 (pos 0)

abbrev pub four : Float
four = fin false 1 (pos 2)

pub record Example : Type 0 where
  pub table : List Float
  pub rows : ℕ
  pub columns : ℕ
  pub told : List Float

unfoldable pub examples : List Example
examples =
    -- column 0 is 3 -1 3 -1, column 1 minus zero, zero, -5 and 2: equal values share the rank of the last of them, and the zeros are equal
    record {
      table =
          fin false 3 (pos 0) ∷ fin true 0 (pos 0)
          ∷ fin true 1 (pos 0) ∷ plus_zero
          ∷ fin false 3 (pos 0) ∷ fin true 5 (pos 0)
          ∷ fin true 1 (pos 0) ∷ fin false 1 (pos 1)
          ∷ [];
      rows = 4;
      columns = 2;
      told = four ∷ three ∷ two ∷ three ∷ four ∷ one ∷ two ∷ four ∷ [];
    }
    -- one row: every rank is 1
    ∷ record { table = fin true 7 (pos 0) ∷ plus_zero ∷ fin false 9 (pos 0) ∷ []; rows = 1; columns = 3; told = one ∷ one ∷ one ∷ [] }
    -- one column: 5 -5 2 5
    ∷ record { table = fin false 5 (pos 0) ∷ fin true 5 (pos 0) ∷ fin false 1 (pos 1) ∷ fin false 5 (pos 0) ∷ []; rows = 4; columns = 1; told = four ∷ one ∷ two ∷ four ∷ [] }
    ∷ []
