-- Definitions that only the inner functions cite. Definitions only; a reader of the promises needs none of them.
--   CheckedTable t rows cols k     a table that has passed its checks
--   Walk cols set rest from        what holds at each call of a walk over choices among columns
use Rattle.std.specs.Prelude.{ℕ, ◌+◌, ◌-◌, ◌*◌, ◌^◌, ◌≤◌, ◌<◌, ◌≡◌, false, List, T, length, get_or, Float}
use Rattle.order.specs.Order.{finite}
use Rattle.order.specs.Counting.{all}
use Rattle.columns.specs.Columns.{columns_of}

pub record CheckedTable (t : List Float) (rows cols k : ℕ) : Type 0 where
  pub rows-most : rows ≤ 4096
  pub cols-most : cols ≤ 32
  pub full : length t ≡ rows * cols
  pub finitely : T (all finite t)
  pub k-some : 0 < k
  pub k-most : k ≤ 4

-- `set` is what is chosen so far; bit j of `rest` is column from + j of those that are still to be looked at, none of which is in `set`
pub record Walk (cols set rest from : ℕ) : Type 0 where
  pub place : from ≤ cols
  pub inside : set < 2 ^ cols
  pub rests : rest < 2 ^ (cols - from)
  pub apart : (j : ℕ) → T (get_or (columns_of (cols - from) rest) j false) → get_or (columns_of cols set) (from + j) false ≡ false
