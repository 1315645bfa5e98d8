-- The call for adjusted figures takes the balanced table of every table that it takes.
--   figures-accepted     its conditions let the balanced table by where they let the table by
use Prim.Native.Nat.{ℕ, ◌*◌}
use native.Mathlib.Omega.{arith}
use mathlib.Core.Path.{◌≡◌, ap}
use mathlib.Core.Bool.{not}
use mathlib.Core.List.{List}
use lib.ListN.{length}
use lib.Ieee.{Float}
use borrow.Author.Tests.{eq-eqb}
use Rattle.order.specs.Order.{finite}
use Rattle.order.specs.Counting.{all}
use Rattle.order.proofs.Booleans.{T_true}
use Rattle.refusals.specs.Answers.{first_refusal}
use Rattle.refusals.proofs.Answers.{none-holds, none_first}
use Rattle.stepdown.specs.Refusals.{bad_value}
use Rattle.adjustment.specs.Answers.{adjustment_checks}
use Rattle.adjustment.proofs.Accepted.{accepted}
use Rattle.balance.specs.Balance.{balanced_table}
use Rattle.balance.proofs.Balanced.{balanced_table-length, balanced_table-finite}

pub figures-accepted : (t : List Float) (rows columns k observed : ℕ) → first_refusal (adjustment_checks t rows columns k observed) ≡ 0 → first_refusal (adjustment_checks (balanced_table t rows columns) rows columns k observed) ≡ 0
unfolding adjustment_checks bad_value
figures-accepted t rows columns k observed ok =
    let u = balanced_table t rows columns in
    let acc = accepted t rows columns k observed ok in
    let f = none-holds (adjustment_checks t rows columns k observed) ok in
    let long = ap not (eq-eqb (length u) (rows * columns) (balanced_table-length t rows columns acc.full)) in
    let sound = ap not (T_true (all finite u) (balanced_table-finite t rows columns (omega (arith, acc.shaped.rows-most)))) in
    none_first (adjustment_checks u rows columns k observed) (f.0, (long, (f.1.1.0, (sound, tt))))
