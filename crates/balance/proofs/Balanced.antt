-- The balanced table keeps the shape of its table, and its entries are ranks: whole numbers up to the number of rows.
--   rank-keys              a rank in a column of finite values, by keys
--   rank_most              a rank is at most the number of rows
--   balanced_row-at, balanced_row-length   the entries of a balanced row, and how many
--   balanced_rows-row, balanced_rows-length  the balanced rows, and how many
--   balanced-all           what whole numbers up to the number of rows pass, all entries pass
--   balanced-sound         the balanced rows of rows of n finite values are such rows
--   balanced_table-length, balanced_table-rows, balanced_table-entry  the balanced table of a table of the right length: its length, rows and entries
--   balanced_table-finite  its values are finite, whatever the table's are
use Prim.Native.Nat.{ℕ, ◌+◌, ◌*◌, ◌^◌, ◌≤◌, ◌<◌}
use native.Mathlib.Omega.{arith}
use mathlib.Core.Path.{◌≡◌, sym, ap, subst, ◌∙◌}
use mathlib.Core.Bool.{Bool, true}
use mathlib.Core.List.{List, []}
use lib.ListN.{length, get_or, length-map}
use lib.Dec.{T, leb, eqb, eqb→eq}
use lib.IntN.{pos}
use lib.Ieee.{Float, nan}
use Rattle.order.specs.Order.{finite, at_most}
use Rattle.order.specs.Counting.{count, all}
use Rattle.order.specs.Lists.{rows_of}
use Rattle.order.proofs.Counts.{all_get_d, all-le, all_map, all_true, count_same, count-length}
use Rattle.order.proofs.Keys.{key, at_most-key}
use Rattle.order.proofs.Lists.{get_d_map, tabulate-length, tabulate-get_d, all-tabulate, rows_of-length, rows_of-even, rows_of-joined, row-entry, joined_length, joined-all}
use Rattle.order.proofs.Rows.{Finite, Sound, sound_row, sound-length, sound-at, sound-row}
use Rattle.order.proofs.Whole.{whole-finite}
use Rattle.balance.specs.Balance.{rank, whole, balanced_row, balanced_rows, balanced_table}

pub rank-keys : (n : ℕ) (X : List (List Float)) → Sound n X → (j : ℕ) → j < n → (v : Float) → T (finite v) → rank X j v ≡ count (λ row. leb (key (get_or row j nan)) (key v)) X
unfolding rank
rank-keys n X sound j h v f = count_same (sound_row n) _ _ X (λ row s. at_most-key (get_or row j nan) v (sound-at n row j s h) f) sound

module _ (X : List (List Float)) where
  pub rank_most : (j : ℕ) (v : Float) → rank X j v ≤ length X
  unfolding rank
  rank_most j v = count-length (λ row. at_most (get_or row j nan) v) X

  pub balanced_row-at : (row : List Float) (j : ℕ) → j < length row → get_or (balanced_row X row) j nan ≡ whole (rank X j (get_or row j nan))
  unfolding balanced_row
  balanced_row-at row j h = tabulate-get_d (length row) (λ j. whole (rank X j (get_or row j nan))) j nan h

  pub balanced_row-length : (row : List Float) → length (balanced_row X row) ≡ length row
  unfolding balanced_row
  balanced_row-length row = tabulate-length (length row) (λ j. whole (rank X j (get_or row j nan)))

  row-all : (p : Float → Bool) → ((m : ℕ) → m ≤ length X → T (p (whole m))) → (row : List Float) → T (all p (balanced_row X row))
  unfolding balanced_row
  row-all p h row = all-tabulate p (length row) (λ j. whole (rank X j (get_or row j nan))) (λ j. h (rank X j (get_or row j nan)) (rank_most j (get_or row j nan)))

  pub balanced_rows-row : (h : ℕ) → h < length X → get_or (balanced_rows X) h [] ≡ balanced_row X (get_or X h [])
  unfolding balanced_rows
  balanced_rows-row h l = get_d_map (λ row. balanced_row X row) X h [] [] l

  pub balanced_rows-length : length (balanced_rows X) ≡ length X
  unfolding balanced_rows
  balanced_rows-length = length-map X (λ row. balanced_row X row)

  -- what rows of a kind pass once they are balanced, all balanced rows pass
  rows_all : (r q : List Float → Bool) → ((row : List Float) → T (r row) → T (q (balanced_row X row))) → T (all r X) → T (all q (balanced_rows X))
  unfolding balanced_rows
  rows_all r q h t = rw (all_map (λ row. balanced_row X row) q X) (all-le r (λ row. q (balanced_row X row)) X h t)

  pub balanced-all : (p : Float → Bool) → ((m : ℕ) → m ≤ length X → T (p (whole m))) → T (all (all p) (balanced_rows X))
  balanced-all p h = rows_all (λ _. true) (all p) (λ row _. row-all p h row) (all_true X)

  whole-small : length X ≤ 2 ^ 53 → (m : ℕ) → m ≤ length X → T (finite (whole m))
  whole-small l m h = whole-finite (pos m) (omega arith)

pub balanced-sound : (n : ℕ) (X : List (List Float)) → Sound n X → length X ≤ 2 ^ 53 → Sound n (balanced_rows X)
balanced-sound n X s l = rows_all X (sound_row n) (sound_row n) (λ row t. sound-row n (balanced_row X row) (balanced_row-length X row ∙ sound-length n row t) (row-all X finite (whole-small X l) row)) s

-- ---- a table

module _ (t : List Float) (rows columns : ℕ) where
  pub balanced_table-finite : rows ≤ 2 ^ 53 → Finite (balanced_table t rows columns)
  unfolding balanced_table
  balanced_table-finite h =
      let X = rows_of rows columns t in
      joined-all finite (balanced_rows X) (balanced-all X finite (whole-small X (omega (arith, rows_of-length rows columns t))))

  module _ (full : length t ≡ rows * columns) where
    tall : length (balanced_rows (rows_of rows columns t)) ≡ rows
    tall = balanced_rows-length (rows_of rows columns t) ∙ rows_of-length rows columns t

    even : T (all (λ r. eqb (length r) columns) (balanced_rows (rows_of rows columns t)))
    even =
        let X = rows_of rows columns t in
        rows_all X (λ r. eqb (length r) columns) (λ r. eqb (length r) columns) (λ row e. rw (balanced_row-length X row) e) (rows_of-even rows columns t full)

    pub balanced_table-length : length (balanced_table t rows columns) ≡ rows * columns
    unfolding balanced_table
    balanced_table-length = joined_length columns (balanced_rows (rows_of rows columns t)) even ∙ ap (λ (m : ℕ). m * columns) tall

    pub balanced_table-rows : rows_of rows columns (balanced_table t rows columns) ≡ balanced_rows (rows_of rows columns t)
    unfolding balanced_table
    balanced_table-rows = subst (λ (m : ℕ). rows_of m columns (balanced_table t rows columns) ≡ balanced_rows (rows_of rows columns t)) tall (rows_of-joined columns (balanced_rows (rows_of rows columns t)) even)

    pub balanced_table-entry : (h j : ℕ) → h < rows → j < columns
        → get_or (balanced_table t rows columns) (h * columns + j) nan ≡ whole (rank (rows_of rows columns t) j (get_or t (h * columns + j) nan))
    balanced_table-entry h j l m =
        let X = rows_of rows columns t in
        let inside : h < length X = omega (arith, rows_of-length rows columns t) in
        let wide = eqb→eq (length (get_or X h [])) columns (all_get_d (λ r. eqb (length r) columns) X h [] inside (rows_of-even rows columns t full)) in
        sym (row-entry (balanced_table t rows columns) rows columns h j nan l m)
        ∙ ap (λ (R : List (List Float)). get_or (get_or R h []) j nan) balanced_table-rows
        ∙ ap (λ (r : List Float). get_or r j nan) (balanced_rows-row X h inside)
        ∙ balanced_row-at X (get_or X h []) j (omega (arith, wide))
        ∙ ap (λ (v : Float). whole (rank X j v)) (row-entry t rows columns h j nan l m)
