-- Laws of the call for the verdicts of a table.
--   table-known              an accepted table has at most 32 columns, and its verdicts fit bytes
--   table_short, table-early, table-refused, table_done     each answer with its buffers: no byte for each column, a refusal before that, another refusal, the verdicts are written
use Prim.Native.Nat.{ℕ, ◌+◌, ◌≤◌, ◌<◌}
use mathlib.Core.Path.{◌≡◌, sym, ap, ◌∙◌, subst}
use mathlib.Core.List.{List, map}
use lib.ListN.{length, take}
use lib.Dec.{T}
use lib.Ieee.{Float}
use Rattle.std.proofs.Common.{Ok, Err}
use Rattle.std.proofs.lemmas.List.{take-map}
use Rattle.refusals.specs.Answers.{Checks, number, outcome}
use Rattle.refusals.specs.declared.refusal.Refusal.{Refusal}
use Rattle.refusals.specs.Buffers.{written}
use Rattle.runs.specs.FullRuns.{accepted_run}
use Rattle.runs.specs.Tables.{table_run}
use Rattle.runs.specs.declared.FullRun.{FullRun}
use Rattle.stepdown.specs.Refusals.{table_checks, table_run_checks, table_run_refusal}
use Rattle.stepdown.specs.Answers.{full_answer, full_work}
use Rattle.stepdown.proofs.Accepted.{table-accepted}
use Rattle.verdicts.specs.Verdicts.{verdict_byte, rejected_count}
use Rattle.verdicts.specs.Internal.{small_bytes}
use Rattle.host.specs.Calls.{verdict_bytes, table_verdicts_answer, table_verdicts_work, table_verdicts_buffer}
use Rattle.host.proofs.Lent.{refused-by, passed, taken}
use Rattle.host.proofs.VerdictBytes.{table-bytes}
use Rattle.host.proofs.TableCalls as calls

module _ (t : List Float) (rows columns k a b observed : ℕ) where
  abbrev own : Checks
  own = table_checks t rows columns k a b observed

  abbrev of_run : ℕ → Checks
  of_run work = table_run_checks t rows columns k a b observed work

  abbrev done : FullRun
  done = accepted_run (table_run t rows columns k a b observed)

  -- ---- what an accepted full run is

  module _ (work : ℕ) (f : FullRun) (e : Ok f ≡ full_answer t rows columns k a b observed work) where
    is_done : f ≡ done
    unfolding full_answer
    is_done = taken (of_run work) done f e

    pub table-known : (columns ≤ 32) × T (small_bytes f.verdicts)
    unfolding full_answer table_run_refusal
    table-known = (
      (table-accepted t rows columns k a b observed work (passed (of_run work) done f e)).shaped.columns-most,
      subst (λ (x : FullRun). T (small_bytes x.verdicts)) (sym is_done) (table-bytes t rows columns k a b observed),
    )

  -- ---- the answers

  module _ (work : List Float) (buf : List ℕ) where
    abbrev Done : ℕ → List Float → List ℕ → Type 0
    Done r w out =
        (r ≡ table_verdicts_answer t rows columns k a b observed (length work) (length buf))
        × ((w ≡ table_verdicts_work t rows columns k a b observed work (length buf))
        × (out ≡ table_verdicts_buffer t rows columns k a b observed (length work) buf))

    abbrev result : ℕ
    result = rejected_count columns done.verdicts

    abbrev bytes : List ℕ
    bytes = verdict_bytes columns done.verdicts

    pub table_short : (x : Unit {0}) → Ok x ≡ outcome (of_run (length work)) (tt {0}) → length buf < columns → Done 112 work buf
    unfolding table_verdicts_answer table_verdicts_work table_verdicts_buffer
    table_short x e = calls.table_short own rows columns result bytes work buf (passed (of_run (length work)) (tt {0}) x e)

    pub table-early : (r : Refusal) → Err r ≡ outcome (of_run (length work)) (tt {0}) → Done (100 + number r) work buf
    unfolding table_verdicts_answer table_verdicts_work table_verdicts_buffer
    table-early r e = calls.table-early own rows columns result bytes work buf r (refused-by (of_run (length work)) (tt {0}) r e)

    pub table-refused : (r : Refusal) → Err r ≡ full_answer t rows columns k a b observed (length work) → (w : List Float) → w ≡ full_work t rows columns k a b observed work → Done (100 + number r) w buf
    unfolding full_answer full_work table_verdicts_answer table_verdicts_work table_verdicts_buffer
    table-refused r e = calls.table-refused own rows columns result bytes work buf r (refused-by (of_run (length work)) done r e)

    pub table_done : (f : FullRun) → Ok f ≡ full_answer t rows columns k a b observed (length work) → (w : List Float) → w ≡ full_work t rows columns k a b observed work → columns ≤ length buf → (n : ℕ) → n ≡ rejected_count columns f.verdicts → (all : List ℕ) → all ≡ map verdict_byte f.verdicts → (out : List ℕ) → out ≡ written (take columns all) buf → Done n w out
    unfolding full_answer full_work table_verdicts_answer table_verdicts_work table_verdicts_buffer
    table_done f e w p h n q all m out o =
        let g = is_done (length work) f e in
        calls.table_done own rows columns result bytes work buf (passed (of_run (length work)) done f e) w p h
        n (q ∙ ap (λ (x : FullRun). rejected_count columns x.verdicts) g)
        out (o ∙ ap (λ (l : List ℕ). written l buf) (ap (take columns) m ∙ take-map verdict_byte columns f.verdicts ∙ ap (λ (x : FullRun). verdict_bytes columns x.verdicts) g))
