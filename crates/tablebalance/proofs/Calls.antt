-- The calls over balanced tables: what the checks let by, and each accepted answer.
--   Counts, counts                       the sizes of a table that 4 does not refuse
--   size_fits                            such a size fits a usize
--   work-kept                            the work buffer of a balanced full run that the plain run's conditions refuse
--   made, not-made                       within an accepted one the balanced table is made
--   run-answer, run-out, run-work        the answer of an accepted one, and both buffers
--   run_room                             its buffer holds the table
use Prim.Native.Nat.{ℕ, ◌*◌, ◌^◌, ◌≤◌, ◌<◌}
use native.Mathlib.Nat.{mul-le-mul_right}
use native.Mathlib.Omega.{arith}
use mathlib.Core.Path.{◌≡◌, sym, ap, ◌∙◌}
use mathlib.Core.Bool.{false, not}
use mathlib.Core.List.{List}
use lib.ListN.{length, take, drop, length-append}
use lib.Seq.{take_at}
use lib.Ieee.{Float}
use borrow.Author.Tests.{le-ltb, eq-eqb}
use Rattle.limits.specs.Limits.{table_rows_most, columns_most}
use Rattle.order.specs.Order.{finite}
use Rattle.order.specs.Counting.{all}
use Rattle.order.proofs.Booleans.{T_true}
use Rattle.std.proofs.Common.{Ok, Err}
use Rattle.refusals.specs.Answers.{Checks, number, outcome, refusal_in}
use Rattle.refusals.specs.declared.refusal.Refusal.{Refusal}
use Rattle.refusals.specs.Buffers.{too_short, written, cleared}
use Rattle.refusals.proofs.Answers.{none-holds, none_first, number-some, outcome-ok, ok-none, ok-for, ok_answer, err_answer, err-append, append-ok}
use Rattle.refusals.proofs.Limits.{neither, or-none, within, inside}
use Rattle.runs.specs.FullRuns.{accepted_run}
use Rattle.stepdown.specs.Refusals.{bad_value, table_run_checks, table_run_refusal}
use Rattle.stepdown.specs.Answers.{full_answer, full_work}
use Rattle.stepdown.proofs.Accepted.{Accepted, table-accepted}
use Rattle.balance.specs.Balance.{balanced_table}
use Rattle.balance.proofs.Balanced.{balanced_table-length}
use Rattle.tablebalance.specs.Answers.{bad_counts, balance_checks, balance_buffer, balanced_run, balanced_checks, balanced_answer, balanced_out, balanced_work}
use Rattle.tablebalance.proofs.Accepted.{balanced-runs}

pub record Counts (rows columns : ℕ) : Type 0 where
  pub rows-some : 1 ≤ rows
  pub rows-most : rows ≤ table_rows_most
  pub columns-some : 1 ≤ columns
  pub columns-most : columns ≤ columns_most

pub counts : (rows columns : ℕ) → bad_counts rows columns ≡ false → Counts rows columns
counts rows columns h =
    let f = or-none _ _ h in
    let r = inside 1 table_rows_most rows f.0 in
    let c = inside 1 columns_most columns f.1 in
    record { rows-some = r.0; rows-most = r.1; columns-some = c.0; columns-most = c.1 }

-- a size that 4 does not refuse fits a usize
pub size_fits : (rows columns : ℕ) → bad_counts rows columns ≡ false → rows * columns < 2 ^ 64
size_fits rows columns h = let s = counts rows columns h in omega (arith, mul-le-mul_right columns s.rows-most, s.columns-most)

-- ---- a full run of it

pub work-kept : (t : List Float) (rows columns k a b observed : ℕ) (out work : List Float) (n : Refusal) → Err n ≡ outcome {A = Unit {0}} (table_run_checks t rows columns k a b observed (length work)) tt → work ≡ balanced_work t rows columns k a b observed (length out) work
unfolding balanced_work
work-kept t rows columns k a b observed out work n e =
    sym (err_answer (balanced_checks t rows columns k a b observed (length out) (length work)) (tt {0}) n (cleared rows work) (λ _. work)
    (err-append (table_run_checks t rows columns k a b observed (length work)) (too_short (length out) (rows * columns)) (tt {0}) (tt {0}) n (sym e)))

module _ (t : List Float) (rows columns k a b observed : ℕ) (out work : List Float) (e : Ok tt ≡ outcome {A = Unit {0}} (table_run_checks t rows columns k a b observed (length work)) tt) where
  abbrev own : Checks
  own = table_run_checks t rows columns k a b observed (length work)

  abbrev checks : Checks
  checks = balanced_checks t rows columns k a b observed (length out) (length work)

  passed : table_run_refusal t rows columns k a b observed (length work) ≡ 0
  unfolding table_run_refusal
  passed = none_first own (ok-none own tt tt (sym e))

  acc : Accepted t rows columns k a b observed
  acc = table-accepted t rows columns k a b observed (length work) passed

  module _ (h : length t ≤ length out) where
    room : rows * columns ≤ length out
    room = omega (arith, acc.full)

    all_pass : outcome {A = Unit {0}} checks tt ≡ Ok tt
    all_pass = append-ok own (too_short (length out) (rows * columns)) tt tt tt tt (sym e) (outcome-ok (too_short (length out) (rows * columns)) tt (le-ltb (length out) (rows * columns) room, tt))

    -- the balanced table is made
    pub made : outcome {A = Unit {0}} (balance_checks t rows columns (length out)) tt ≡ Ok tt
    unfolding balance_checks bad_value
    made = let s = acc.shaped in
        outcome-ok (balance_checks t rows columns (length out)) tt (
          neither (within 1 table_rows_most rows s.rows-some s.rows-most) (within 1 columns_most columns s.columns-some s.columns-most),
          (ap not (eq-eqb (length t) (rows * columns) acc.full), (ap not (T_true (all finite t) acc.finitely), (le-ltb (length out) (rows * columns) room, tt))),
        )

    pub not-made : (n : Refusal) → Err n ≡ outcome {A = Unit {0}} (balance_checks t rows columns (length out)) tt → ⊥
    not-made n q = let z : number n ≡ 0 = ap refusal_in (q ∙ made) in omega (arith, number-some n, z)

    module _ (w : List Float) (m : w ≡ balance_buffer t rows columns out) where
      there : w ≡ written (balanced_table t rows columns) out
      unfolding balance_buffer
      there = m ∙ ok_answer (balance_checks t rows columns (length out)) tt tt (written (balanced_table t rows columns) out) (λ _. out) made

      same_length : length (balanced_table t rows columns) ≡ length t
      same_length = balanced_table-length t rows columns acc.full ∙ sym acc.full

      pub run_room : length t ≤ length w
      run_room = omega (arith, ap length there ∙ length-append (balanced_table t rows columns) (drop (length (balanced_table t rows columns)) out), same_length)

      table_is : take (length t) w ≡ balanced_table t rows columns
      table_is = ap (take (length t)) there ∙ take_at (balanced_table t rows columns) (drop (length (balanced_table t rows columns)) out) (length t) same_length

      balanced : Checks
      balanced = table_run_checks (balanced_table t rows columns) rows columns k a b observed (length work)

      balanced-ok : outcome {A = Unit {0}} balanced tt ≡ Ok tt
      unfolding balanced
      balanced-ok = outcome-ok balanced tt (none-holds balanced (balanced-runs t rows columns k a b observed (length work) passed))

      -- the answer with both buffers
      pub run-answer : full_answer (take (length t) w) rows columns k a b observed (length work) ≡ balanced_answer t rows columns k a b observed (length out) (length work)
      unfolding full_answer balanced_answer balanced_run balanced
      run-answer =
          let f = accepted_run (balanced_run t rows columns k a b observed) in
          ap (λ (x : List Float). full_answer x rows columns k a b observed (length work)) table_is ∙ ok-for balanced tt tt f balanced-ok ∙ sym (ok-for checks tt tt f all_pass)

      pub run-out : w ≡ balanced_out t rows columns k a b observed out (length work)
      unfolding balanced_out
      run-out = there ∙ sym (ok_answer checks tt tt (written (balanced_table t rows columns) out) (λ _. out) all_pass)

      pub run-work : full_work (take (length t) w) rows columns k a b observed work ≡ balanced_work t rows columns k a b observed (length out) work
      unfolding full_work balanced_work balanced
      run-work =
          ap (λ (x : List Float). full_work x rows columns k a b observed work) table_is
          ∙ ok_answer balanced tt tt (cleared rows work) (λ _. work) balanced-ok ∙ sym (ok_answer checks tt tt (cleared rows work) (λ _. work) all_pass)
