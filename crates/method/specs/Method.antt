-- The method, for a tolerance k and an allowance e, on the rows X of a table. Definitions only.
--   k_max k K row           a row's k-max: its k-th largest value over the columns of K
--   critical_value k e X K  c(K): of the M rows' k-max values over K, the (M - e)-th smallest
--   put_back k e X A R       the largest c(A with I) over all subsets I of R with exactly k - 1 columns
--   at_least X v j           how many rows have a value of at least v in column j (an offer's count)
--   reaching k X K v        how many rows have a k-max over K of at least v
use Rattle.std.specs.Prelude.{ℕ, ◌-◌, List, map, length, get_or, Float}
use Rattle.std.specs.Float.{nan}
use Rattle.order.specs.Order.{at_most}
use Rattle.order.specs.Counting.{count}
use Rattle.select.specs.Rank.{kth_largest, mth_smallest}
use Rattle.columns.specs.Columns.{Columns, ◌∪◌, within, choose}

unfoldable pub k_max : ℕ → Columns → List Float → Float
unfolding kth_largest within
k_max k K row = kth_largest k (within K row)

unfoldable pub critical_value : ℕ → ℕ → List (List Float) → Columns → Float
unfolding mth_smallest k_max
critical_value k e X K = mth_smallest (length X - e) (map (λ row. k_max k K row) X)

unfoldable pub put_back : ℕ → ℕ → List (List Float) → Columns → Columns → Float
unfolding kth_largest choose critical_value ◌∪◌
put_back k e X A R = kth_largest 1 (map (λ I. critical_value k e X (A ∪ I)) (choose (k - 1) R))

unfoldable pub at_least : List (List Float) → Float → ℕ → ℕ
unfolding count
at_least X v j = count (λ row. at_most v (get_or row j nan)) X

unfoldable pub reaching : ℕ → List (List Float) → Columns → Float → ℕ
unfolding count k_max
reaching k X K v = count (λ row. at_most v (k_max k K row)) X
