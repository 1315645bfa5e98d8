-- Laws of the call for the adjusted figures of a table.
--   adjusted-known           an accepted table has at most 32 columns, and no figure is above 4096
--   adjusted-never, adjusted-cramped     with no work place the call is refused, and there is no place for each column
--   adjusted-refused, adjusted-done     each other answer with its buffers: another refusal, the figures are written
use Prim.Native.Nat.{ℕ, ◌+◌, ◌≤◌, ◌<◌}
use native.Mathlib.Omega.{arith}
use mathlib.Core.Path.{◌≡◌, refl, ap, ◌∙◌}
use mathlib.Core.List.{List, [], ◌++◌}
use lib.ListN.{length, get_or, take}
use lib.Ieee.{Float}
use Rattle.std.proofs.Common.{Ok, Err}
use Rattle.refusals.specs.Answers.{Checks, number, first_refusal}
use Rattle.refusals.specs.declared.refusal.Refusal.{Refusal}
use Rattle.refusals.specs.Buffers.{written}
use Rattle.adjustment.specs.Adjusted.{table_figures}
use Rattle.adjustment.specs.Answers.{adjustment_checks, adjustment_call_checks, adjustment_call_refusal, accepted_figures, figures_answer, figures_work}
use Rattle.adjustment.specs.declared.Adjusted.{Adjusted}
use Rattle.adjustment.proofs.Accepted.{accepted, call-accepted}
use Rattle.adjustment.proofs.Tables.{table-length, table-most}
use Rattle.host.specs.AdjustedCalls.{table_adjusted_answer, table_adjusted_work, table_adjusted_buffer}
use Rattle.host.proofs.Lent.{refused-by, passed, taken, cramped-refused}
use Rattle.host.proofs.FigureAnswers.{figures-first, figures-most}
use Rattle.host.proofs.TableCalls.{table-cramped, table-refused, table_done}

module _ (t : List Float) (rows columns k observed : ℕ) where
  abbrev own : Checks
  own = adjustment_checks t rows columns k observed

  abbrev checks : ℕ → Checks
  checks work = adjustment_call_checks t rows columns k observed work

  abbrev fs : List ℕ
  fs = table_figures t rows columns k observed

  some-row : first_refusal own ≡ 0 → 0 < rows
  some-row z = (accepted t rows columns k observed z).shaped.rows-some

  module _ (work : ℕ) (f : Adjusted) (e : Ok f ≡ figures_answer t rows columns k observed work) where
    passes : first_refusal (checks work) ≡ 0
    unfolding figures_answer
    passes = passed (checks work) (accepted_figures rows fs) f e

    is_done : f ≡ accepted_figures rows fs
    unfolding figures_answer
    is_done = taken (checks work) (accepted_figures rows fs) f e

    pub adjusted-known : (columns ≤ 32) × ((j : ℕ) → get_or f.figures j 0 ≤ 4096)
    unfolding adjustment_call_refusal
    adjusted-known =
        let s = (call-accepted t rows columns k observed work passes).shaped in
        (s.columns-most, λ j. omega (arith, s.rows-most, figures-most rows fs f is_done columns (table-length t rows columns k observed) (table-most t rows columns k observed) j))

    first : take columns f.figures ≡ fs
    first = figures-first rows fs f is_done columns (table-length t rows columns k observed)

  pub adjusted-never : (f : Adjusted) → Ok f ≡ figures_answer t rows columns k observed 0 → ⊥
  adjusted-never f e = cramped-refused own rows some-row (passes 0 f e)

  -- ---- the answers

  module _ (work : List Float) (buf : List ℕ) where
    abbrev Done : ℕ → List Float → List ℕ → Type 0
    Done r w out =
        (r ≡ table_adjusted_answer t rows columns k observed (length work) (length buf))
        × ((w ≡ table_adjusted_work t rows columns k observed work (length buf))
        × (out ≡ table_adjusted_buffer t rows columns k observed (length work) buf))

    pub adjusted-cramped : length buf < columns → (r : Refusal) → Err r ≡ figures_answer t rows columns k observed 0 → (front : List Float) → front ≡ figures_work t rows columns k observed [] → Done (100 + number r) (front ++ work) buf
    unfolding figures_answer figures_work table_adjusted_answer table_adjusted_work table_adjusted_buffer
    adjusted-cramped h r e front p = table-cramped own rows columns 0 fs work buf some-row h r (refused-by (checks 0) (accepted_figures rows fs) r e) front p

    pub adjusted-refused : (r : Refusal) → Err r ≡ figures_answer t rows columns k observed (length work) → (w : List Float) → w ≡ figures_work t rows columns k observed work → Done (100 + number r) w buf
    unfolding figures_answer figures_work table_adjusted_answer table_adjusted_work table_adjusted_buffer
    adjusted-refused r e = table-refused own rows columns 0 fs work buf r (refused-by (checks (length work)) (accepted_figures rows fs) r e)

    pub adjusted-done : (f : Adjusted) → Ok f ≡ figures_answer t rows columns k observed (length work) → (w : List Float) → w ≡ figures_work t rows columns k observed work → columns ≤ length buf → (all : List ℕ) → all ≡ f.figures → (out : List ℕ) → out ≡ written (take columns all) buf → Done 0 w out
    unfolding figures_work table_adjusted_answer table_adjusted_work table_adjusted_buffer
    adjusted-done f e w p h all m out o = table_done own rows columns 0 fs work buf (passes (length work) f e) w p h 0 refl out (o ∙ ap (λ (l : List ℕ). written l buf) (ap (take columns) m ∙ first (length work) f e))
