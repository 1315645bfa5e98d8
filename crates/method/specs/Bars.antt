-- Which column set a critical value (document 02, §5: which offer set the bar), on the rows X of a table. Definitions only.
--   k_max_column k K row   the column of a row's k-max over K: the lowest column of K whose value equals it, from 0
--   bar_set k e X Ks c     of some sets, the first whose critical value equals c
--   bar_row k X K c        the lowest row whose k-max over K equals c, from 0
use Rattle.std.specs.Prelude.{ℕ, List, [], get_or, Float}
use Rattle.order.specs.Order.{equal}
use Rattle.order.specs.Lists.{first_at}
use Rattle.columns.specs.Columns.{Columns, ◌∩◌, equal_to, lowest}
use Rattle.method.specs.Method.{k_max, critical_value}

unfoldable pub k_max_column : ℕ → Columns → List Float → ℕ
unfolding lowest ◌∩◌ equal_to k_max
k_max_column k K row = lowest (K ∩ equal_to (k_max k K row) row)

unfoldable pub bar_set : ℕ → ℕ → List (List Float) → List Columns → Float → Columns
unfolding first_at critical_value
bar_set k e X Ks c = get_or Ks (first_at (λ K. equal c (critical_value k e X K)) Ks) []

unfoldable pub bar_row : ℕ → List (List Float) → Columns → Float → ℕ
unfolding first_at k_max
bar_row k X K c = first_at (λ row. equal c (k_max k K row)) X
