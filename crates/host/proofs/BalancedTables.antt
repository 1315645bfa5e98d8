-- Laws of the call for the balanced table of a table.
--   balanced-refused, balanced-done     each answer: 100 plus the refusal number, and 0
use Prim.Native.Nat.{ℕ, ◌+◌}
use mathlib.Core.Path.{◌≡◌, sym}
use mathlib.Core.List.{List}
use lib.Ieee.{Float}
use Rattle.std.proofs.Common.{Ok, Err}
use Rattle.refusals.specs.Answers.{number, outcome}
use Rattle.refusals.specs.declared.refusal.Refusal.{Refusal}
use Rattle.refusals.proofs.Answers.{ok_answer, err_answer}
use Rattle.tablebalance.specs.Answers.{balance_checks}
use Rattle.host.specs.BalancedCalls.{table_balanced_answer}

module _ (t : List Float) (rows columns places : ℕ) where
  pub balanced-refused : (r : Refusal) → Err r ≡ outcome (balance_checks t rows columns places) (tt {0}) → 100 + number r ≡ table_balanced_answer t rows columns places
  unfolding table_balanced_answer
  balanced-refused r e = sym (err_answer (balance_checks t rows columns places) (tt {0}) r 0 (λ n. 100 + n) (sym e))

  pub balanced-done : (x : Unit {0}) → Ok x ≡ outcome (balance_checks t rows columns places) (tt {0}) → 0 ≡ table_balanced_answer t rows columns places
  unfolding table_balanced_answer
  balanced-done x e = sym (ok_answer (balance_checks t rows columns places) (tt {0}) x 0 (λ n. 100 + n) (sym e))
