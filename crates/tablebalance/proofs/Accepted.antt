-- The balanced table of an accepted table is accepted, with the same k, level and observed row.
--   few-rows             an accepted table has few enough rows that their number is an f64
--   accepted-balanced    the balanced table is not refused where the table is not
--   balanced-runs        nor is a full run of it
use Prim.Native.Nat.{ℕ, ◌*◌, ◌^◌, ◌≤◌}
use native.Mathlib.Omega.{arith}
use mathlib.Core.Path.{◌≡◌, refl, sym, ap, ◌∙◌}
use mathlib.Core.Bool.{not}
use mathlib.Core.List.{List}
use lib.ListN.{length}
use lib.Ieee.{Float}
use borrow.Author.Tests.{eq-eqb}
use Rattle.order.specs.Order.{finite}
use Rattle.order.specs.Counting.{all}
use Rattle.order.proofs.Booleans.{T_true}
use Rattle.refusals.specs.Answers.{first_refusal}
use Rattle.refusals.specs.Buffers.{too_short}
use Rattle.refusals.proofs.Answers.{none-holds, none_first, both-pass, first_passes}
use Rattle.balance.specs.Balance.{balanced_table}
use Rattle.balance.proofs.Balanced.{balanced_table-length, balanced_table-finite}
use Rattle.stepdown.specs.Refusals.{bad_value, table_checks, table_refusal, table_run_checks, table_run_refusal}
use Rattle.stepdown.proofs.Accepted.{Accepted, accepted}

module _ (t : List Float) (rows columns k a b observed : ℕ) where
  pub few-rows : Accepted t rows columns k a b observed → rows ≤ 2 ^ 53
  few-rows acc = omega (arith, acc.shaped.rows-most)

  pub accepted-balanced : table_refusal t rows columns k a b observed ≡ 0 → table_refusal (balanced_table t rows columns) rows columns k a b observed ≡ 0
  unfolding table_refusal table_checks bad_value
  accepted-balanced ok =
      let u = balanced_table t rows columns in
      let acc = accepted t rows columns k a b observed ok in
      let f = none-holds (table_checks t rows columns k a b observed) ok in
      let long = ap not (eq-eqb (length u) (rows * columns) (balanced_table-length t rows columns acc.full)) in
      let sound = ap not (T_true (all finite u) (balanced_table-finite t rows columns (few-rows acc))) in
      none_first (table_checks u rows columns k a b observed) (f.0, (f.1.0, (long, (f.1.1.1.0, (sound, tt)))))

  pub balanced-runs : (places : ℕ) → table_run_refusal t rows columns k a b observed places ≡ 0 → first_refusal (table_run_checks (balanced_table t rows columns) rows columns k a b observed places) ≡ 0
  unfolding table_run_refusal table_refusal
  balanced-runs places ok =
      let f = both-pass (table_checks t rows columns k a b observed) (too_short places rows) ok in
      first_passes (table_checks (balanced_table t rows columns) rows columns k a b observed) (too_short places rows) 0 (sym (accepted-balanced f.0)) refl ∙ f.1
