-- Who set a critical value, in the public calls for tables.
--   step-set-by        what the record of an accepted step tells is true
--   table-set-by       so is what each record of a table's full run tells
use Prim.Native.Nat.{ℕ, ◌<◌}
use native.Mathlib.Omega.{arith}
use mathlib.Core.Path.{◌≡◌, refl}
use mathlib.Core.List.{List}
use lib.ListN.{length, get_or}
use lib.Ieee.{Float}
use Rattle.order.specs.Lists.{rows_of}
use Rattle.order.proofs.Lists.{rows_of-length}
use Rattle.refusals.specs.Limits.{allowance}
use Rattle.columns.specs.Columns.{full_mask}
use Rattle.runs.specs.Stepdown.{live_set, rejected_set, step_sets}
use Rattle.runs.specs.Tables.{table_start, table_run}
use Rattle.runs.specs.SetBy.{SetBy, RecordSetBy}
use Rattle.runs.specs.declared.Record.{Record}
use Rattle.runs.proofs.Bars.{set-by, ready-first, record-set-by}
use Rattle.engine.proofs.OneStep.{ready}
use Rattle.stepdown.specs.Runs.{state_of, step_record}
use Rattle.stepdown.specs.Refusals.{table_refusal, step_refusal}
use Rattle.stepdown.specs.declared.Run.{Run}
use Rattle.stepdown.proofs.Accepted.{accepted, accepted-sound, accepted-rare}
use Rattle.stepdown.proofs.Calls.{step-known}

pub step-set-by : (t : List Float) (r : Run) (places : ℕ) → step_refusal t r places ≡ 0
    → SetBy r.k (allowance r.rows r.a r.b) (rows_of r.rows r.columns t) (step_sets r.k (live_set (state_of r)) (rejected_set (state_of r)) r.steps) (step_record t r)
step-set-by t r places h = set-by (rows_of r.rows r.columns t) (state_of r) (ready t (state_of r) (step-known t r places h))

pub table-set-by : (t : List Float) (rows columns k a b observed : ℕ) → table_refusal t rows columns k a b observed ≡ 0
    → (i : ℕ) → i < length (table_run t rows columns k a b observed).records → (d : Record) → RecordSetBy (rows_of rows columns t) (table_start rows columns k a b observed) i (get_or (table_run t rows columns k a b observed).records i d)
unfolding table_run
table-set-by t rows columns k a b observed ok i h d =
    let acc = accepted t rows columns k a b observed ok in
    let tall = rows_of-length rows columns t in
    record-set-by (rows_of rows columns t) (table_start rows columns k a b observed) refl
    (λ on. ready-first (rows_of rows columns t) rows columns k (allowance rows a b) observed (full_mask columns) (accepted-sound t rows columns k a b observed acc) (omega (arith, acc.seen, tall)) acc.shaped.k-some (omega (arith, accepted-rare t rows columns k a b observed acc, tall)) on) i h d
