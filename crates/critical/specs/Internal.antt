-- Definitions that only the inner functions cite. Definitions only; a reader of the promises needs none of them.
--   members_from i K     the numbers of the columns of K, the first one being column i
--   found_of k e X K     c(K), and the lowest row whose k-max over K equals it
--   pushed ts x          the largest values, in falling order, once x is seen too: each place keeps the larger of its value and what the place before it gives up
--   top_from ts xs       once all of xs are seen
--   Marked X k v kept marks     the numbers of those rows of X that have at least k columns above v, and their marks by it
--   tops_above X k K v   the k-max values over K of the rows that have at least k columns of K above v
--   Tallying row observed counts     two rows of a table, and a count for each column
use Rattle.std.specs.Prelude.{ℕ, suc, ◌≤◌, ◌≡◌, true, cond, List, [], ◌∷◌, map, T, leb, length, get_or, Float}
use Rattle.order.specs.Order.{low, smaller, larger, lesser}
use Rattle.order.specs.Lists.{tabulate}
use Rattle.columns.specs.Columns.{Columns, size, ◌∩◌}
use Rattle.method.specs.Method.{k_max, critical_value}
use Rattle.method.specs.Bars.{bar_row}
use Rattle.masks.specs.Marks.{passes, those, rows_kept, marks_at}
use Rattle.critical.specs.declared.quantile.Found.{Found}

unfoldable pub members_from : ℕ → Columns → List ℕ
members_from i [] = []
members_from i (b ∷ K) = cond b (i ∷ members_from (suc i) K) (members_from (suc i) K)

unfoldable pub found_of : ℕ → ℕ → List (List Float) → Columns → Found
unfolding critical_value bar_row
found_of k e X K = let c = critical_value k e X K in record { value = c; row = bar_row k X K c }

-- ---- the largest values

unfoldable pub pushed : List Float → Float → List Float
pushed [] x = []
pushed (t ∷ ts) x = larger t x ∷ pushed ts (lesser t x)

unfoldable pub top_from : List Float → List Float → List Float
unfolding pushed
top_from ts [] = ts
top_from ts (x ∷ xs) = top_from (pushed ts x) xs

-- ---- the rows above a value

pub record Marked (X : List (List Float)) (k : ℕ) (v : Float) (kept marks : List ℕ) : Type 0 where
  pub floor : T (low v)
  pub stay : kept ≡ rows_kept k (λ x. passes true v x) X (tabulate (length X) (λ g. g))
  pub marked : marks ≡ marks_at (λ x. passes true v x) X kept

unfoldable pub tops_above : List (List Float) → ℕ → Columns → Float → List Float
unfolding those k_max size ◌∩◌
tops_above X k K v = map (λ row. k_max k K row) (those (λ row. leb k (size (K ∩ map (λ x. smaller v x) row))) X)

-- ---- counts

pub record Tallying (row observed : List Float) (counts : List ℕ) : Type 0 where
  pub even : length observed ≡ length row
  pub room : length row ≤ length counts
  pub small : (j : ℕ) → get_or counts j 0 ≤ 4096
