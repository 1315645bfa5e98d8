-- Worked examples of full runs, and some of who set a critical value: a table of what is asked and what is told. Definitions only; proofs/Examples.antt states that they agree.
--   ⁺ n, ⁻ n, step        how values and records are written
--   Answer, Example       what can be asked; what is asked and what is told
--   W, P                  two tables, row after row
--   whole, of_table, of_p, any_rejected  what is asked: a full run, that of a table, c(K) of P, whether any column is rejected
--   examples              all of them, one after the other
--   bars                  who set a critical value, where several could have
-- W's table stands here row by row; crate trialrun shows that it is the table of the trial W.
use Rattle.std.specs.Prelude.{ℕ, Bool, true, false, List, [], ◌∷◌, pos, neg_ℤ, Float}
use Rattle.std.specs.Float.{fin, binary64}
use Rattle.std.specs.Float.Ieee.{of_int}
use Rattle.order.specs.Order.{plus_zero}
use Rattle.order.specs.Lists.{rows_of, tabulate}
use Rattle.refusals.specs.Limits.{allowance}
use Rattle.method.specs.Method.{critical_value}
use Rattle.runs.specs.Stepdown.{Outcome}
use Rattle.runs.specs.Tables.{table_run}
use Rattle.runs.specs.declared.Record.{Record}
use Rattle.runs.specs.declared.Verdict.{Verdict}
use Rattle.runs.specs.declared.Verdict.TheVariants.{Rejected, Kept, Aside}

-- ---- how an example is written

-- whole numbers as f64, not negative and negative
abbrev pub ⁺ : ℕ → Float
⁺ n = of_int binary64 (pos n)

abbrev pub ⁻ : ℕ → Float
⁻ n = of_int binary64 (neg_ℤ (pos n))

abbrev pub step : ℕ → Float → ℕ → ℕ → Record
step n c g j = record { step = n; critical = c; row = g; offer = j }

-- what can be asked: e with the full run, one critical value, or which of the rows reject any column when they are the observed one
pub data Answer : Type 0 where
  run : ℕ → List Verdict → List ℕ → List Record → Answer
  value : Float → Answer
  rows : List Bool → Answer

pub record Example : Type 0 where
  pub asked : Answer
  pub told : Answer

abbrev pub whole : Outcome → Answer
whole o = run o.e o.verdicts o.counts o.records

abbrev pub of_table : List Float → ℕ → ℕ → ℕ → ℕ → ℕ → Answer
unfolding table_run
of_table t m n k a b = whole (table_run t m n k a b 0)

abbrev pub any_rejected : List Verdict → Bool
any_rejected [] = false
any_rejected (Rejected s c ∷ vs) = true
any_rejected (Kept c ∷ vs) = any_rejected vs
any_rejected (Aside ∷ vs) = any_rejected vs

-- ---- the tables, their values written out as the checker computes with them; proofs/Examples.antt has them as whole numbers

abbrev pub W : List Float
W =
    fin false 3 (pos 2) ∷ fin false 1 (pos 1)
    ∷ fin false 1 (pos 1) ∷ fin true 1 (pos 1)
    ∷ fin false 3 (pos 1) ∷ fin false 1 (pos 2)
    ∷ fin true 1 (pos 2) ∷ plus_zero
    ∷ fin false 1 (pos 2) ∷ plus_zero
    ∷ fin true 3 (pos 1) ∷ fin true 1 (pos 2)
    ∷ fin true 1 (pos 1) ∷ fin false 1 (pos 1)
    ∷ fin true 3 (pos 2) ∷ fin true 1 (pos 1)
    ∷ []

abbrev pub P : List Float
P = fin false 9 (pos 0) ∷ fin false 1 (pos 3) ∷ fin false 3 (pos 0) ∷ fin false 1 (pos 2) ∷ fin false 1 (pos 0) ∷ fin false 1 (pos 1) ∷ plus_zero ∷ fin false 1 (pos 2) ∷ fin false 5 (pos 0) ∷ fin false 1 (pos 0) ∷ plus_zero ∷ fin false 1 (pos 0) ∷ []

-- c(K) of P for k 2 at level 1/4
abbrev pub of_p : List Bool → Answer
unfolding critical_value rows_of allowance
of_p K = value (critical_value 2 (allowance 4 1 4) (rows_of 4 3 P) K)

-- ---- the examples

unfoldable pub examples : List Example
unfolding of_table of_p table_run tabulate of_int
examples =
    -- W as printed; at 1/8; at 1/9; at 7/8; with k 2; with k 2 at 1/9
    record { asked = of_table W 8 2 1 1 4; told = run 2 (Rejected 1 (⁺ 4) ∷ Kept (⁺ 2) ∷ []) (1 ∷ 3 ∷ []) (step 1 (⁺ 4) 4 1 ∷ step 2 (⁺ 2) 0 2 ∷ []) }
    ∷ record { asked = of_table W 8 2 1 1 8; told = run 1 (Rejected 1 (⁺ 6) ∷ Kept (⁺ 2) ∷ []) (1 ∷ 3 ∷ []) (step 1 (⁺ 6) 2 1 ∷ step 2 (⁺ 2) 0 2 ∷ []) }
    ∷ record { asked = of_table W 8 2 1 1 9; told = run 0 (Kept (⁺ 12) ∷ Kept (⁺ 12) ∷ []) (1 ∷ 3 ∷ []) (step 1 (⁺ 12) 0 1 ∷ []) }
    ∷ record { asked = of_table W 8 2 1 7 8; told = run 7 (Rejected 1 (⁻ 4) ∷ Rejected 1 (⁻ 4) ∷ []) (1 ∷ 3 ∷ []) (step 1 (⁻ 4) 5 2 ∷ []) }
    ∷ record { asked = of_table W 8 2 2 1 4; told = run 2 (Rejected 1 (⁺ 0) ∷ Rejected 1 (⁺ 0) ∷ []) (1 ∷ 3 ∷ []) (step 1 (⁺ 0) 4 2 ∷ []) }
    ∷ record { asked = of_table W 8 2 2 1 9; told = run 0 (Rejected 1 (⁺ 4) ∷ Kept (⁺ 4) ∷ []) (1 ∷ 3 ∷ []) (step 1 (⁺ 4) 2 2 ∷ []) }
    -- W's rows as observed, both offers idle: exactly rows 0 and 2 reject any
    ∷ record {
      asked = rows (tabulate 8 (λ g. any_rejected (table_run W 8 2 1 1 4 g).verdicts));
      told = rows (true ∷ false ∷ true ∷ false ∷ false ∷ false ∷ false ∷ false ∷ []);
    }
    -- P: step 1 gives 4 and rejects two; offer 1 put back gives 2, offer 2 put back gives 3, and the larger keeps offer 3
    ∷ record { asked = of_table P 4 3 2 1 4; told = run 1 (Rejected 1 (⁺ 4) ∷ Rejected 1 (⁺ 4) ∷ Kept (⁺ 3) ∷ []) (1 ∷ 1 ∷ 2 ∷ []) (step 1 (⁺ 4) 2 2 ∷ step 2 (⁺ 3) 0 3 ∷ []) }
    ∷ record { asked = of_p (true ∷ false ∷ true ∷ []); told = value (⁺ 2) }
    ∷ record { asked = of_p (false ∷ true ∷ true ∷ []); told = value (⁺ 3) }
    -- one row, one column: kept, count 1
    ∷ record { asked = of_table (⁺ 5 ∷ []) 1 1 1 1 4; told = run 0 (Kept (⁺ 5) ∷ []) (1 ∷ []) (step 1 (⁺ 5) 0 1 ∷ []) }
    -- rows zero and minus zero, level 1/2: plus zero, kept, count 2
    ∷ record { asked = of_table (plus_zero ∷ fin true 0 (pos 0) ∷ []) 2 1 1 1 2; told = run 1 (Kept plus_zero ∷ []) (2 ∷ []) (step 1 plus_zero 0 1 ∷ []) }
    ∷ []

-- ---- who set the bar: each record ends in the row, from 0, and the offer, from 1

unfoldable pub bars : List Example
unfolding of_table table_run of_int
bars =
    -- offers: of the row (5, 7, 7, 1) the second offer has the 2-max, not the third
    record { asked = of_table (⁺ 5 ∷ ⁺ 7 ∷ ⁺ 7 ∷ ⁺ 1 ∷ []) 1 4 2 1 4; told = run 0 (Kept (⁺ 7) ∷ Kept (⁺ 7) ∷ Kept (⁺ 7) ∷ Kept (⁺ 7) ∷ []) (1 ∷ 1 ∷ 1 ∷ 1 ∷ []) (step 1 (⁺ 7) 0 2 ∷ []) }
    -- rows: of (3, 0), (0, 1), (1, 1), (1, 0) three have the maximum 1, and row 1 is the lowest
    ∷ record {
      asked = of_table (⁺ 3 ∷ ⁺ 0 ∷ ⁺ 0 ∷ ⁺ 1 ∷ ⁺ 1 ∷ ⁺ 1 ∷ ⁺ 1 ∷ ⁺ 0 ∷ []) 4 2 1 1 4;
      told = run 1 (Rejected 1 (⁺ 1) ∷ Kept (⁺ 1) ∷ []) (1 ∷ 4 ∷ []) (step 1 (⁺ 1) 1 2 ∷ step 2 (⁺ 1) 1 2 ∷ []);
    }
    -- sets: of (9, 8, 1), (2, 0, 2), (0, 2, 2), (3, 3, 3) with k 2, step 2 gets 2 with offer 1 put back, in row 1, and with offer 2, in row 2: the first set counts,
    -- and of offers 1 and 3 in its row the lower one
    ∷ record {
      asked = of_table (⁺ 9 ∷ ⁺ 8 ∷ ⁺ 1 ∷ ⁺ 2 ∷ ⁺ 0 ∷ ⁺ 2 ∷ ⁺ 0 ∷ ⁺ 2 ∷ ⁺ 2 ∷ ⁺ 3 ∷ ⁺ 3 ∷ ⁺ 3 ∷ []) 4 3 2 1 4;
      told = run 1 (Rejected 1 (⁺ 3) ∷ Rejected 1 (⁺ 3) ∷ Kept (⁺ 2) ∷ []) (1 ∷ 1 ∷ 4 ∷ []) (step 1 (⁺ 3) 3 1 ∷ step 2 (⁺ 2) 1 1 ∷ []);
    }
    -- zeros: of (1, 1), (minus zero, zero) at 1/2 the second row has the critical value, and minus zero equals it
    ∷ record { asked = of_table (⁺ 1 ∷ ⁺ 1 ∷ fin true 0 (pos 0) ∷ plus_zero ∷ []) 2 2 1 1 2; told = run 1 (Rejected 1 plus_zero ∷ Rejected 1 plus_zero ∷ []) (1 ∷ 1 ∷ []) (step 1 plus_zero 1 1 ∷ []) }
    ∷ []
