-- From the figures of a trial to its table. Definitions only.
--   row_total t         M: the rows of a trial's table
--   by_offer t          the figures of each offer
--   figures_at t i      those of offer i (from 0)
--   row_of t g           row g of its table: for each offer the exact whole number as an f64
--   trial_rows t        all rows
--   table_of t           the table as it is lent, row after row
use Rattle.std.specs.Prelude.{ℕ, List, [], map, get_or, ℤ, Float}
use Rattle.std.specs.Float.{binary64}
use Rattle.std.specs.Float.Ieee.{of_int}
use Rattle.order.specs.Lists.{tabulate, rows_of, joined}
use Rattle.trial.specs.Designs.{units_of, row_count, entry_of}
use Rattle.trial.specs.Record.{figure_count, figures_of}
use Rattle.trial.specs.declared.Trial.{Trial}

unfoldable pub row_total : Trial → ℕ
unfolding row_count
row_total t = row_count t.shape.design

unfoldable pub by_offer : Trial → List (List ℤ)
unfolding rows_of units_of figure_count
by_offer t = rows_of t.shape.offers (units_of t.shape.design) (figures_of t)

abbrev pub figures_at : Trial → ℕ → List ℤ
figures_at t i = get_or (by_offer t) i []

unfoldable pub row_of : Trial → ℕ → List Float
unfolding by_offer entry_of of_int
row_of t g = map (λ xs. of_int binary64 (entry_of t.shape.design g xs)) (by_offer t)

unfoldable pub trial_rows : Trial → List (List Float)
unfolding tabulate row_total row_of
trial_rows t = tabulate (row_total t) (λ g. row_of t g)

unfoldable pub table_of : Trial → List Float
unfolding joined trial_rows
table_of t = joined (trial_rows t)
