-- The balanced table (document 02, §3; the balanced critical values of document 000): each entry becomes its rank in its own column. Definitions only.
--   rank X j v                      how many rows of X have a value of at most v in column j
--   whole n                         a whole number as an f64
--   balanced_row X row              a row, each entry replaced by its rank in its own column of X
--   balanced_rows X                 the rows of X, each so
--   balanced_table t rows columns   the balanced table of a table t, row after row
use Rattle.std.specs.Prelude.{ℕ, List, map, length, get_or, pos, Float}
use Rattle.std.specs.Float.{nan, binary64}
use Rattle.std.specs.Float.Ieee.{of_int}
use Rattle.order.specs.Order.{at_most}
use Rattle.order.specs.Counting.{count}
use Rattle.order.specs.Lists.{tabulate, rows_of, joined}

unfoldable pub rank : List (List Float) → ℕ → Float → ℕ
unfolding count
rank X j v = count (λ row. at_most (get_or row j nan) v) X

abbrev pub whole : ℕ → Float
whole n = of_int binary64 (pos n)

unfoldable pub balanced_row : List (List Float) → List Float → List Float
unfolding tabulate rank of_int
balanced_row X row = tabulate (length row) (λ j. whole (rank X j (get_or row j nan)))

unfoldable pub balanced_rows : List (List Float) → List (List Float)
unfolding balanced_row
balanced_rows X = map (λ row. balanced_row X row) X

unfoldable pub balanced_table : List Float → ℕ → ℕ → List Float
unfolding joined balanced_rows rows_of
balanced_table t rows columns = joined (balanced_rows (rows_of rows columns t))
