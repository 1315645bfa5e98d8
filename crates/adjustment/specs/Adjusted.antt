-- Adjusted figures: the allowance at which a column enters the list. In the field: adjusted p-values, times M. Definitions only.
--   least_below n p     the least number below n that passes a test, and n where none does
--   rejected_at X rows columns k observed live e j    the method at e, on the rows X of a table, rejects column j
--   adjusted_figure X rows columns k observed live j  column j's figure: the least e from 0 to M - 1 at which it does, or M
--   adjusted_figures X rows columns k observed live   those of all columns
--   rejected_in t rows columns k observed e j         the method at e rejects column j of a table t, all of whose columns are live
--   table_figures t rows columns k observed           the figures of all its columns
use Rattle.std.specs.Prelude.{ℕ, zero, suc, Bool, cond, List, get_or, Float}
use Rattle.order.specs.Order.{plus_zero}
use Rattle.order.specs.Lists.{tabulate, rows_of}
use Rattle.columns.specs.Columns.{full_mask}
use Rattle.runs.specs.Stepdown.{first_state, full_run}
use Rattle.runs.specs.FullRuns.{is_rejected}
use Rattle.runs.specs.declared.Verdict.TheVariants.{Kept}

unfoldable pub least_below : ℕ → (ℕ → Bool) → ℕ
least_below zero p = 0
least_below (suc n) p = cond (p 0) 0 (suc (least_below n (λ i. p (suc i))))

-- by the verdict of the core's full run at e
unfoldable pub rejected_at : List (List Float) → ℕ → ℕ → ℕ → ℕ → ℕ → ℕ → ℕ → Bool
unfolding full_run
rejected_at X rows columns k observed live e j = is_rejected (get_or (full_run X (first_state rows columns k e observed live)).verdicts j (Kept plus_zero))

unfoldable pub adjusted_figure : List (List Float) → ℕ → ℕ → ℕ → ℕ → ℕ → ℕ → ℕ
unfolding least_below rejected_at
adjusted_figure X rows columns k observed live j = least_below rows (λ e. rejected_at X rows columns k observed live e j)

unfoldable pub adjusted_figures : List (List Float) → ℕ → ℕ → ℕ → ℕ → ℕ → List ℕ
unfolding tabulate adjusted_figure
adjusted_figures X rows columns k observed live = tabulate columns (λ j. adjusted_figure X rows columns k observed live j)

abbrev pub rejected_in : List Float → ℕ → ℕ → ℕ → ℕ → ℕ → ℕ → Bool
rejected_in t rows columns k observed e j = rejected_at (rows_of rows columns t) rows columns k observed (full_mask columns) e j

unfoldable pub table_figures : List Float → ℕ → ℕ → ℕ → ℕ → List ℕ
unfolding adjusted_figures rows_of
table_figures t rows columns k observed = adjusted_figures (rows_of rows columns t) rows columns k observed (full_mask columns)
