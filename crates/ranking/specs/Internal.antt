-- What the functions that rank a table's columns cite. Definitions only; a reader of the promises needs none of them.
--   places_in t columns j rows   the places, in the 64-bit order, of the values in column j
--   ranked_by places v           how many of the places stand no higher than v's, as an f64
--   Put columns j places t u     u is t, with each entry of column j ranked so
--   Ordered t columns j places order     the places of column j, and all rows in rising order of them
--   Rankable t rows columns      a table that has passed its checks
--   Room rows a b c              three spaces with a place for each row
use Rattle.std.specs.Prelude.{ℕ, ◌+◌, ◌*◌, ◌%◌, ◌≤◌, ◌<◌, ◌≡◌, cond, List, length, get_or, T, leb, eqb, Float}
use Rattle.std.specs.Float.{nan}
use Rattle.limits.specs.Limits.{table_rows_most, columns_most}
use Rattle.order.specs.Order.{finite}
use Rattle.order.specs.Counting.{count, all}
use Rattle.order.specs.Lists.{tabulate}
use Rattle.order.specs.Places.{place}
use Rattle.balance.specs.Balance.{whole}
use Rattle.sorting.specs.Sorting.{Sorted}

unfoldable pub places_in : List Float → ℕ → ℕ → ℕ → List ℕ
unfolding tabulate place
places_in t columns j rows = tabulate rows (λ h. place (get_or t (h * columns + j) nan))

abbrev pub ranked_by : List ℕ → Float → Float
ranked_by places v = whole (count (λ p. leb p (place v)) places)

pub record Put (columns j : ℕ) (places : List ℕ) (t u : List Float) : Type 0 where
  pub told : (p : ℕ) → p < length t → get_or u p nan ≡ cond (eqb (p % columns) j) (ranked_by places (get_or t p nan)) (get_or t p nan)

pub record Ordered (t : List Float) (columns j : ℕ) (places order : List ℕ) : Type 0 where
  pub full : length t ≡ length places * columns
  pub within : j < columns
  pub columns-most : columns ≤ columns_most
  pub most : length places ≤ table_rows_most
  pub placed : places ≡ places_in t columns j (length places)
  pub even : length order ≡ length places
  pub sorted : Sorted places order

pub record Rankable (t : List Float) (rows columns : ℕ) : Type 0 where
  pub full : length t ≡ rows * columns
  pub finitely : T (all finite t)
  pub rows-most : rows ≤ table_rows_most
  pub columns-some : 0 < columns
  pub columns-most : columns ≤ columns_most

pub record Room (rows : ℕ) (a b c : List ℕ) : Type 0 where
  pub first : length a ≡ rows
  pub second : length b ≡ rows
  pub third : length c ≡ rows
