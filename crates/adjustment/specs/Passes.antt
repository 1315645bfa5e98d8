-- The adjusted figures by one pass down the observed values, largest first, the lower position first among equals. Definitions only.
--   first_reaching A row v    the lowest column of A whose value in the row is at least v
--   top_column A row          the column of A with the largest value in the row, the lowest one among equals
-- For k = 1:
--   maximum_from n X row A m fs   the figures fs after the pass over the n columns of A, those not yet passed; m is the running maximum so far
--   maximum_pass X live o         each column's figure, row o being observed; M for a column that is not live
-- For every k:
--   largest_of ns             the largest of some numbers, 0 where there is none
--   needed k X live R v       the count that a value v needs with R passed: of the rows whose k-max over the live columns reaches v while fewer than k are
--                             passed, and later the largest such count over those not passed with k - 1 passed ones put back
--   k_max_from n k X live row R m fs, k_max_pass k X live o  the same pass, by these counts
use Rattle.std.specs.Prelude.{ℕ, zero, suc, ◌-◌, max, true, false, cond, ◌&&◌, List, [], ◌∷◌, map, length, get_or, set, replicate, ltb, Float}
use Rattle.std.specs.Float.{nan}
use Rattle.order.specs.Order.{at_most}
use Rattle.columns.specs.Columns.{Columns, size, ◌∪◌, ◌∖◌, choose}
use Rattle.method.specs.Method.{k_max, reaching}

unfoldable pub first_reaching : Columns → List Float → Float → ℕ
first_reaching [] row v = 0
first_reaching (b ∷ A) [] v = 0
first_reaching (b ∷ A) (x ∷ row) v = cond (b && at_most v x) 0 (suc (first_reaching A row v))

unfoldable pub top_column : Columns → List Float → ℕ
unfolding first_reaching k_max
top_column A row = first_reaching A row (k_max 1 A row)

-- ---- k = 1

unfoldable pub maximum_from : ℕ → List (List Float) → List Float → Columns → ℕ → List ℕ → List ℕ
unfolding top_column reaching
maximum_from zero X row A m fs = fs
maximum_from (suc n) X row A m fs =
    let i = top_column A row in
    let figure = max m (reaching 1 X A (get_or row i nan)) in
    maximum_from n X row (set A i false) figure (set fs i figure)

unfoldable pub maximum_pass : List (List Float) → Columns → ℕ → List ℕ
unfolding maximum_from size
maximum_pass X live o = maximum_from (size live) X (get_or X o []) live 0 (replicate (length live) (length X))

-- ---- every k

unfoldable pub largest_of : List ℕ → ℕ
largest_of [] = 0
largest_of (n ∷ ns) = max n (largest_of ns)

unfoldable pub needed : ℕ → List (List Float) → Columns → Columns → Float → ℕ
unfolding reaching largest_of choose size ◌∪◌ ◌∖◌
needed k X live R v = cond (ltb (size R) k) (reaching k X live v) (largest_of (map (λ I. reaching k X ((live ∖ R) ∪ I) v) (choose (k - 1) R)))

unfoldable pub k_max_from : ℕ → ℕ → List (List Float) → Columns → List Float → Columns → ℕ → List ℕ → List ℕ
unfolding top_column needed ◌∖◌
k_max_from zero k X live row R m fs = fs
k_max_from (suc n) k X live row R m fs =
    let i = top_column (live ∖ R) row in
    let figure = max m (needed k X live R (get_or row i nan)) in
    k_max_from n k X live row (set R i true) figure (set fs i figure)

unfoldable pub k_max_pass : ℕ → List (List Float) → Columns → ℕ → List ℕ
unfolding k_max_from size
k_max_pass k X live o = k_max_from (size live) k X live (get_or X o []) (map (λ _. false) live) 0 (replicate (length live) (length X))
