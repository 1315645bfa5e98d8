-- The call for the figures of a table: what it asks of its parts, and its answers.
--   passable                 an accepted table, with all columns live
--   figures-on, figures-cleared     an accepted answer is the definition's
use Prim.Native.Nat.{ℕ}
use native.Mathlib.Omega.{arith}
use mathlib.Core.Path.{◌≡◌, sym, ap, ◌∙◌}
use mathlib.Core.List.{List}
use lib.ListN.{length}
use lib.Ieee.{Float}
use Rattle.std.proofs.Common.{Ok}
use Rattle.order.specs.Lists.{rows_of, padded}
use Rattle.refusals.specs.Answers.{Checks, outcome}
use Rattle.refusals.specs.Buffers.{cleared}
use Rattle.refusals.proofs.Answers.{none_first, ok-none, ok-for, ok_answer}
use Rattle.columns.specs.Columns.{full_mask}
use Rattle.columns.proofs.Masks.{full-fits}
use Rattle.adjustment.specs.Adjusted.{adjusted_figures, table_figures}
use Rattle.adjustment.specs.Answers.{adjustment_call_checks, adjustment_call_refusal, accepted_figures, figures_answer, figures_work}
use Rattle.adjustment.proofs.Accepted.{Accepted, accepted-checked, call-accepted}
use Rattle.figuring.specs.Internal.{Passable}

module _ (t : List Float) (rows columns k observed : ℕ) (work : List Float) (e : Ok tt ≡ outcome {A = Unit {0}} (adjustment_call_checks t rows columns k observed (length work)) tt) where
  abbrev checks : Checks
  checks = adjustment_call_checks t rows columns k observed (length work)

  pub passed : adjustment_call_refusal t rows columns k observed (length work) ≡ 0
  unfolding adjustment_call_refusal
  passed = none_first checks (ok-none checks tt tt (sym e))

  pub passable : (live : ℕ) → live ≡ full_mask columns → Passable t rows columns k observed live
  passable live q = record { ready = accepted-checked t rows columns k observed acc; seen = acc.seen; live-fits = omega (arith, full-fits columns) }
    where
      acc : Accepted t rows columns k observed
      acc = call-accepted t rows columns k observed (length work) passed

  pub figures-on : (live : ℕ) (fs : List ℕ) → live ≡ full_mask columns → fs ≡ padded 32 0 (adjusted_figures (rows_of rows columns t) rows columns k observed live)
      → Ok (record { rows = rows; figures = fs }) ≡ figures_answer t rows columns k observed (length work)
  unfolding figures_answer table_figures
  figures-on live fs q p =
      ap (λ (l : List ℕ). Ok (record { rows = rows; figures = l })) (p ∙ ap (λ (m : ℕ). padded 32 0 (adjusted_figures (rows_of rows columns t) rows columns k observed m)) q)
      ∙ sym (ok-for checks tt tt (accepted_figures rows (table_figures t rows columns k observed)) (sym e))

  pub figures-cleared : (w : List Float) → w ≡ cleared rows work → w ≡ figures_work t rows columns k observed work
  unfolding figures_work
  figures-cleared w q = q ∙ sym (ok_answer checks tt tt (cleared rows work) (λ _. work) (sym e))
