-- Laws of verdicts in bytes.
--   byte_small           one of small numbers fits a byte
--   table-bytes          those of a table's full run are small
--   count_fits           the number of rejected of at most 32 is small
use Prim.Native.Nat.{ℕ, ◌^◌, ◌≤◌, ◌<◌}
use native.Mathlib.Omega.{arith}
use mathlib.Core.Path.{◌≡◌, refl}
use mathlib.Core.List.{List}
use lib.ListN.{length, get_or}
use lib.Dec.{T, leb, leb→le}
use lib.Ieee.{Float}
use Rattle.order.specs.Lists.{rows_of}
use Rattle.order.proofs.Counts.{all_get_d}
use Rattle.runs.specs.FullRuns.{accepted_run}
use Rattle.runs.specs.Tables.{table_start, table_run}
use Rattle.runs.specs.declared.Verdict.{Verdict}
use Rattle.verdicts.specs.Verdicts.{verdict_byte, rejected_count}
use Rattle.verdicts.specs.Internal.{small_bytes}
use Rattle.verdicts.proofs.Bytes.{run-bytes}
use Rattle.verdicts.proofs.Counted.{count-few}

pub byte_small : (vs : List Verdict) (i : ℕ) (d : Verdict) → T (small_bytes vs) → i < length vs → verdict_byte (get_or vs i d) < 256
byte_small vs i d h l = omega (arith, leb→le (verdict_byte (get_or vs i d)) 255 (all_get_d (λ x. leb (verdict_byte x) 255) vs i d l h))

pub table-bytes : (t : List Float) (rows columns k a b observed : ℕ) → T (small_bytes (accepted_run (table_run t rows columns k a b observed)).verdicts)
unfolding table_run
table-bytes t rows columns k a b observed = run-bytes (rows_of rows columns t) (table_start rows columns k a b observed) refl

pub count_fits : (n : ℕ) (vs : List Verdict) (r : ℕ) → r ≡ rejected_count n vs → n ≤ 32 → r < 2 ^ 32
count_fits n vs r e h = omega (arith, count-few n vs)
