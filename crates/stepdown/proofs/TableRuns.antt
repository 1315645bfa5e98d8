-- The full run of an accepted table.
--   full-run-ends      it has ended: the bound of 32 steps is never what ends it
--   full-run-falls     no critical value is higher than the one before
use Prim.Native.Nat.{ℕ}
use native.Mathlib.Omega.{arith}
use mathlib.Core.Path.{◌≡◌}
use mathlib.Core.Bool.{true}
use mathlib.Core.List.{List}
use lib.Ieee.{Float}
use Rattle.order.specs.Lists.{rows_of}
use Rattle.order.proofs.Lists.{rows_of-length}
use Rattle.refusals.specs.Limits.{allowance}
use Rattle.columns.specs.Columns.{full_mask}
use Rattle.runs.specs.Stepdown.{steps_of}
use Rattle.runs.specs.Tables.{table_start}
use Rattle.runs.proofs.Termination.{last_state, run_ends}
use Rattle.runs.proofs.Descent.{Falling, run-falls}
use Rattle.stepdown.specs.Refusals.{table_refusal}
use Rattle.stepdown.proofs.Accepted.{Accepted, accepted, accepted-sound, accepted-rare}

module _ (t : List Float) (rows columns k a b observed : ℕ) (ok : table_refusal t rows columns k a b observed ≡ 0) where
  acc : Accepted t rows columns k a b observed
  acc = accepted t rows columns k a b observed ok

  pub full-run-ends : (last_state (table_start rows columns k a b observed) (steps_of (rows_of rows columns t) (table_start rows columns k a b observed))).ended ≡ true
  full-run-ends =
      run_ends (rows_of rows columns t) rows columns k (allowance rows a b) observed (full_mask columns) (accepted-sound t rows columns k a b observed acc)
      (omega (arith, rows_of-length rows columns t, acc.seen)) acc.shaped.k-some acc.shaped.columns-most

  pub full-run-falls : Falling (steps_of (rows_of rows columns t) (table_start rows columns k a b observed))
  full-run-falls =
      run-falls (rows_of rows columns t) rows columns k (allowance rows a b) observed (full_mask columns) (accepted-sound t rows columns k a b observed acc)
      (omega (arith, rows_of-length rows columns t, acc.seen)) acc.shaped.k-some (omega (arith, rows_of-length rows columns t, accepted-rare t rows columns k a b observed acc))
