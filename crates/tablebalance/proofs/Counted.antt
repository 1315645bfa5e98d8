-- The counts of a full run are the same in the balanced table.
--   counts_same        as many rows have at least an entry of their column, in the rows and in the balanced rows
--   run-counts         so the counts of a full run over the balanced rows are those of one over the rows, from any state
--   balanced_run-rows  the balanced full run, by the balanced rows
--   balanced-counts    the counts of the balanced full run are those of the plain one
use Prim.Native.Nat.{ℕ, ◌*◌, ◌^◌, ◌≤◌, ◌<◌}
use native.Mathlib.Omega.{arith}
use mathlib.Core.Path.{◌≡◌, ap, ◌∙◌}
use mathlib.Core.Bool.{cond}
use mathlib.Core.List.{List, []}
use lib.ListN.{length, get_or}
use lib.Ieee.{Float, nan}
use Rattle.order.specs.Order.{at_most}
use Rattle.order.specs.Lists.{rows_of}
use Rattle.order.proofs.Counts.{count_map, count_same}
use Rattle.order.proofs.Lists.{tabulate-same, rows_of-length}
use Rattle.order.proofs.Rows.{Sound, sound_row}
use Rattle.columns.specs.Columns.{in_set}
use Rattle.method.specs.Method.{at_least}
use Rattle.runs.specs.Stepdown.{Outcome, full_run}
use Rattle.runs.specs.Tables.{table_start, table_run}
use Rattle.runs.specs.declared.State.{State}
use Rattle.balance.specs.Balance.{balanced_row, balanced_rows}
use Rattle.balance.proofs.Balanced.{balanced_rows-row, balanced_table-rows}
use Rattle.balance.proofs.Ranks.{balanced-order}
use Rattle.stepdown.proofs.Accepted.{Accepted, accepted-sound}
use Rattle.tablebalance.specs.Answers.{balanced_run}
use Rattle.tablebalance.proofs.Accepted.{few-rows}

pub counts_same : (n : ℕ) (X : List (List Float)) (g j : ℕ) → Sound n X → length X ≤ 2 ^ 53 → g < length X → j < n
    → at_least (balanced_rows X) (get_or (get_or (balanced_rows X) g []) j nan) j ≡ at_least X (get_or (get_or X g []) j nan) j
unfolding at_least balanced_rows
counts_same n X g j sound few l m =
    ap (λ (r : List Float). at_least (balanced_rows X) (get_or r j nan) j) (balanced_rows-row X g l)
    ∙ count_map (λ row. balanced_row X row) (λ row. at_most (get_or (balanced_row X (get_or X g [])) j nan) (get_or row j nan)) X
    ∙ count_same (sound_row n) _ _ X (λ row s. balanced-order n X sound j m g l few row s) sound

pub run-counts : (X : List (List Float)) (s : State) → Sound s.columns X → length X ≤ 2 ^ 53 → s.observed < length X → (full_run (balanced_rows X) s).counts ≡ (full_run X s).counts
unfolding full_run
run-counts X s sound few seen = tabulate-same s.columns _ _ (λ j l. ap (λ (n : ℕ). cond (in_set s.live j) n 0) (counts_same s.columns X s.observed j sound few seen l))

module _ (t : List Float) (rows columns k a b observed : ℕ) where
  pub balanced_run-rows : length t ≡ rows * columns → balanced_run t rows columns k a b observed ≡ full_run (balanced_rows (rows_of rows columns t)) (table_start rows columns k a b observed)
  unfolding balanced_run table_run
  balanced_run-rows full = ap (λ (X : List (List Float)). full_run X (table_start rows columns k a b observed)) (balanced_table-rows t rows columns full)

  pub balanced-counts : Accepted t rows columns k a b observed → (balanced_run t rows columns k a b observed).counts ≡ (table_run t rows columns k a b observed).counts
  unfolding table_run
  balanced-counts acc =
      let X = rows_of rows columns t in
      let tall = rows_of-length rows columns t in
      ap (λ (o : Outcome). o.counts) (balanced_run-rows acc.full)
      ∙ run-counts X (table_start rows columns k a b observed) (accepted-sound t rows columns k a b observed acc) (omega (arith, tall, few-rows t rows columns k a b observed acc)) (omega (arith, tall, acc.seen))
