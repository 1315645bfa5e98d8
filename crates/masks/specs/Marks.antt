-- Rows as masks: the mark of a row is the set of its columns whose value passes a test, as the bits of a number. Definitions only.
--   passes above v x       x is above v, or, where `above` is false, reaches it
--   passing b x             the same by a value that says which
--   mark_of p row           the mark of a row by the test p
--   holds k s m            at least k columns of the set s are in the mark m
--   holding k s ms         how many marks hold at least k columns of s
--   those p xs             the members that pass a test, in their order
--   marks_of k p X         the marks of those rows of X that have at least k columns which pass p: no other row can hold k columns of a set
--   rows_kept k p X gs     of these numbers of rows of X, those of rows that have at least k columns which pass p
--   marks_at p X gs        the marks of the rows with these numbers
--   holding_columns k K ms  the same count as `holding`, for a set as a Bool for each column
use Rattle.std.specs.Prelude.{ℕ, Bool, true, false, cond, List, [], ◌∷◌, map, length, get_or, leb, Float}
use Rattle.std.specs.Int.Bits.{bit_and}
use Rattle.order.specs.Order.{smaller, at_most}
use Rattle.order.specs.Counting.{count}
use Rattle.masks.specs.declared.rows.Bound.{Bound}
use Rattle.masks.specs.declared.rows.Bound.TheVariants.{Above, Reached}
use Rattle.columns.specs.Columns.{Columns, size, columns_of, mask_of, ◌∩◌}

abbrev pub passes : Bool → Float → Float → Bool
passes above v x = cond above (smaller v x) (at_most v x)

abbrev pub passing : Bound → Float → Bool
passing (Above v) x = passes true v x
passing (Reached v) x = passes false v x

abbrev pub mark_of : (Float → Bool) → List Float → ℕ
mark_of p row = mask_of (map p row)

abbrev pub holds : ℕ → ℕ → ℕ → Bool
holds k s m = leb k (size (columns_of 32 (bit_and m s)))

unfoldable pub holding : ℕ → ℕ → List ℕ → ℕ
unfolding count size columns_of
holding k s ms = count (holds k s) ms

unfoldable pub those : {A : Type 0} → (A → Bool) → List A → List A
those p [] = []
those p (x ∷ xs) = cond (p x) (x ∷ those p xs) (those p xs)

unfoldable pub marks_of : ℕ → (Float → Bool) → List (List Float) → List ℕ
unfolding those size columns_of mask_of
marks_of k p X = those (λ m. leb k (size (columns_of 32 m))) (map (λ row. mark_of p row) X)

unfoldable pub rows_kept : ℕ → (Float → Bool) → List (List Float) → List ℕ → List ℕ
unfolding those size columns_of mask_of
rows_kept k p X gs = those (λ g. leb k (size (columns_of 32 (mark_of p (get_or X g []))))) gs

abbrev pub marks_at : (Float → Bool) → List (List Float) → List ℕ → List ℕ
marks_at p X gs = map (λ g. mark_of p (get_or X g [])) gs

unfoldable pub holding_columns : ℕ → Columns → List ℕ → ℕ
unfolding count size columns_of ◌∩◌
holding_columns k K ms = count (λ m. leb k (size (columns_of (length K) m ∩ K))) ms
