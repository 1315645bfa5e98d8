-- Examples of adjusted figures: what is asked and what is told. Definitions only; proofs/Examples.antt states that they agree.
--   Tied            a table of 3 rows and 2 columns, whose row 0 has a minus zero before a zero
--   Example         what is asked and what is told
--   by_maxima t rows columns o, by_k_max k t rows columns o  the figures of a table by each pass, row o being observed
--   examples        all of them: W's and P's and those of Tied, by the definition and by the passes; and which of equal values is passed first
use Rattle.std.specs.Prelude.{ℕ, true, false, List, [], ◌∷◌, pos, Float}
use Rattle.std.specs.Float.{fin}
use Rattle.order.specs.Order.{plus_zero}
use Rattle.order.specs.Lists.{rows_of}
use Rattle.columns.specs.Columns.{every_column}
use Rattle.runs.specs.Examples.{W, P}
use Rattle.adjustment.specs.Adjusted.{table_figures}
use Rattle.adjustment.specs.Passes.{top_column, maximum_pass, k_max_pass}

abbrev pub Tied : List Float
Tied =
    fin true 0 (pos 0) ∷ plus_zero
    ∷ fin true 1 (pos 0) ∷ fin false 1 (pos 0)
    ∷ fin false 1 (pos 1) ∷ fin true 1 (pos 0)
    ∷ []

pub record Example : Type 0 where
  pub asked : List ℕ
  pub told : List ℕ

abbrev pub by_maxima : List Float → ℕ → ℕ → ℕ → List ℕ
unfolding maximum_pass rows_of
by_maxima t rows columns o = maximum_pass (rows_of rows columns t) (every_column columns) o

abbrev pub by_k_max : ℕ → List Float → ℕ → ℕ → ℕ → List ℕ
unfolding k_max_pass rows_of
by_k_max k t rows columns o = k_max_pass k (rows_of rows columns t) (every_column columns) o

unfoldable pub examples : List Example
unfolding table_figures by_maxima by_k_max top_column
examples =
    -- W as printed; P for k 2
    record { asked = table_figures W 8 2 1 0; told = 1 ∷ 3 ∷ [] }
    ∷ record { asked = by_maxima W 8 2 0; told = 1 ∷ 3 ∷ [] }
    ∷ record { asked = by_k_max 1 W 8 2 0; told = 1 ∷ 3 ∷ [] }
    ∷ record { asked = table_figures P 4 3 2 0; told = 0 ∷ 1 ∷ 2 ∷ [] }
    ∷ record { asked = by_k_max 2 P 4 3 0; told = 0 ∷ 1 ∷ 2 ∷ [] }
    -- Tied, row 0 observed: equal values have equal figures, by the running maximum, and neither column is rejected at any e; for k 2 both are at 1
    ∷ record { asked = table_figures Tied 3 2 1 0; told = 3 ∷ 3 ∷ [] }
    ∷ record { asked = by_maxima Tied 3 2 0; told = 3 ∷ 3 ∷ [] }
    ∷ record { asked = by_k_max 1 Tied 3 2 0; told = 3 ∷ 3 ∷ [] }
    ∷ record { asked = table_figures Tied 3 2 2 0; told = 1 ∷ 1 ∷ [] }
    ∷ record { asked = by_k_max 2 Tied 3 2 0; told = 1 ∷ 1 ∷ [] }
    -- row 1 observed: column 1 is passed first
    ∷ record { asked = table_figures Tied 3 2 1 1; told = 3 ∷ 2 ∷ [] }
    ∷ record { asked = by_maxima Tied 3 2 1; told = 3 ∷ 2 ∷ [] }
    ∷ record { asked = by_k_max 1 Tied 3 2 1; told = 3 ∷ 2 ∷ [] }
    -- of a minus zero and a zero the lower position is passed first, whichever stands there
    ∷ record { asked = top_column (true ∷ true ∷ []) (fin true 0 (pos 0) ∷ plus_zero ∷ []) ∷ []; told = 0 ∷ [] }
    ∷ record { asked = top_column (true ∷ true ∷ []) (plus_zero ∷ fin true 0 (pos 0) ∷ []) ∷ []; told = 0 ∷ [] }
    ∷ []
