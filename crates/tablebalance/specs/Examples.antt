-- Examples of balanced tables and of their full runs: what is asked and what is told. Definitions only; proofs/Examples.antt states that they agree.
--   Sales             a table of 8 rows and 2 columns, milk and saffron: the sums of 3 pairs' differences, 500 -300 200 and 3 2 1
--   Example           what is asked and what is told
--   tabled, ranks     the entries of a balanced table; those that are told
--   plain, balanced   the full run at 1/4 for k 1, row 0 being observed: of a table, and of its balanced table
--   examples          all of them: W's, and those of Sales
use Rattle.std.specs.Prelude.{ℕ, List, [], ◌∷◌, map, Float}
use Rattle.runs.specs.Examples.{⁺, ⁻, step, Answer, run, value, whole, W}
use Rattle.runs.specs.Tables.{table_run}
use Rattle.runs.specs.declared.Verdict.TheVariants.{Rejected, Kept}
use Rattle.balance.specs.Balance.{balanced_table}
use Rattle.tablebalance.specs.Answers.{balanced_run}

abbrev pub Sales : List Float
Sales =
    ⁺ 400 ∷ ⁺ 6
    ∷ ⁻ 600 ∷ ⁺ 0
    ∷ ⁺ 1000 ∷ ⁺ 2
    ∷ ⁺ 0 ∷ ⁻ 4
    ∷ ⁺ 0 ∷ ⁺ 4
    ∷ ⁻ 1000 ∷ ⁻ 2
    ∷ ⁺ 600 ∷ ⁺ 0
    ∷ ⁻ 400 ∷ ⁻ 6
    ∷ []

pub record Example : Type 0 where
  pub asked : List Answer
  pub told : List Answer

abbrev pub tabled : List Float → ℕ → ℕ → List Answer
tabled t rows columns = map value (balanced_table t rows columns)

abbrev pub ranks : List ℕ → List Answer
ranks ns = map (λ n. value (⁺ n)) ns

abbrev pub plain : List Float → ℕ → ℕ → List Answer
plain t rows columns = whole (table_run t rows columns 1 1 4 0) ∷ []

abbrev pub balanced : List Float → ℕ → ℕ → List Answer
balanced t rows columns = whole (balanced_run t rows columns 1 1 4 0) ∷ []

unfoldable pub examples : List Example
examples =
    -- W: offer 1 is rejected and offer 2 kept, as in the plain run
    record { asked = tabled W 8 2; told = ranks (8 ∷ 7 ∷ 5 ∷ 3 ∷ 7 ∷ 8 ∷ 3 ∷ 5 ∷ 6 ∷ 5 ∷ 2 ∷ 1 ∷ 4 ∷ 7 ∷ 1 ∷ 3 ∷ []) }
    ∷ record { asked = balanced W 8 2; told = run 2 (Rejected 1 (⁺ 7) ∷ Kept (⁺ 7) ∷ []) (1 ∷ 3 ∷ []) (step 1 (⁺ 7) 6 2 ∷ step 2 (⁺ 7) 0 2 ∷ []) ∷ [] }
    -- milk's figures are large and set the bar for both; balanced, saffron is rejected. The counts are the same
    ∷ record { asked = plain Sales 8 2; told = run 2 (Kept (⁺ 400) ∷ Kept (⁺ 400) ∷ []) (3 ∷ 1 ∷ []) (step 1 (⁺ 400) 0 1 ∷ []) ∷ [] }
    ∷ record { asked = tabled Sales 8 2; told = ranks (6 ∷ 8 ∷ 2 ∷ 5 ∷ 8 ∷ 6 ∷ 5 ∷ 2 ∷ 5 ∷ 7 ∷ 1 ∷ 3 ∷ 7 ∷ 5 ∷ 3 ∷ 1 ∷ []) }
    ∷ record { asked = balanced Sales 8 2; told = run 2 (Kept (⁺ 6) ∷ Rejected 1 (⁺ 7) ∷ []) (3 ∷ 1 ∷ []) (step 1 (⁺ 7) 4 2 ∷ step 2 (⁺ 6) 0 1 ∷ []) ∷ [] }
    ∷ []
