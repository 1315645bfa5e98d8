-- A place of a table. Definitions only.
--   entry_of xs rows columns row column   the value at a row and a column of the table that a list holds, row after row; none where the table or the list has no such place
--   held e         the value that an entry holds, or none
use Rattle.std.specs.Prelude.{ℕ, ◌+◌, ◌*◌, cond, ◌&&◌, List, [], ◌∷◌, length, get_or, ltb, Option, Some, None, Float}
use Rattle.std.specs.Float.{nan}

unfoldable pub entry_of : List Float → ℕ → ℕ → ℕ → ℕ → Option Float
entry_of xs rows columns row column =
    cond (ltb row rows && (ltb column columns && ltb (row * columns + column) (length xs))) (Some (get_or xs (row * columns + column) nan)) None

-- an entry, case by case
abbrev pub held : Option Float → List Float
held (Some x) = x ∷ []
held None = []
