-- What the call for the adjusted figures of a table answers, and what the lent work buffer holds afterwards. Definitions only.
--   adjustment_checks t rows columns k observed           of a table whose figures are asked for: 4, 9, 10, 11; no level is taken, so 3 is skipped
--   adjustment_call_checks t rows columns k observed places   the same with a work buffer of so many places, then 12
--   adjustment_call_refusal ..            the number of the first that holds, or 0
--   accepted_figures rows fs          what the call answers for M rows and the figures fs
--   blank_figures                     figures of which nothing is told
--   told_figures answer               what an answer tells: 0 and the figures, or the number of the refusal and blank figures
--   figures_answer t rows columns k observed places   what the call answers
--   figures_work t rows columns k observed work       the work buffer after it
use Rattle.std.specs.Prelude.{ℕ, ◌*◌, not, List, [], ◌∷◌, ◌++◌, length, replicate, eqb, leb, Result, Ok, Err, Float}
use Rattle.order.specs.Lists.{padded}
use Rattle.refusals.specs.Answers.{Checks, number, outcome, first_refusal, afterwards, r4, r9, r10, r11}
use Rattle.refusals.specs.declared.refusal.Refusal.{Refusal}
use Rattle.refusals.specs.Buffers.{too_short, cleared}
use Rattle.stepdown.specs.Refusals.{bad_shape, bad_value}
use Rattle.adjustment.specs.Adjusted.{table_figures}
use Rattle.adjustment.specs.declared.Adjusted.{Adjusted}

unfoldable pub adjustment_checks : List Float → ℕ → ℕ → ℕ → ℕ → Checks
unfolding bad_value
adjustment_checks t rows columns k observed =
    (bad_shape rows columns k, r4)
    ∷ (not (eqb (length t) (rows * columns)), r9)
    ∷ (leb rows observed, r10)
    ∷ (bad_value t, r11)
    ∷ []

abbrev pub adjustment_call_checks : List Float → ℕ → ℕ → ℕ → ℕ → ℕ → Checks
adjustment_call_checks t rows columns k observed places = adjustment_checks t rows columns k observed ++ too_short places rows

unfoldable pub adjustment_call_refusal : List Float → ℕ → ℕ → ℕ → ℕ → ℕ → ℕ
unfolding first_refusal adjustment_checks
adjustment_call_refusal t rows columns k observed places = first_refusal (adjustment_call_checks t rows columns k observed places)

abbrev pub accepted_figures : ℕ → List ℕ → Adjusted
accepted_figures rows fs = record { rows = rows; figures = padded 32 0 fs }

abbrev pub blank_figures : Adjusted
blank_figures = record { rows = 0; figures = replicate 32 0 }

abbrev pub told_figures : Result Adjusted Refusal → ℕ × Adjusted
told_figures (Ok f) = (0, f)
told_figures (Err r) = (number r, blank_figures)

unfoldable pub figures_answer : List Float → ℕ → ℕ → ℕ → ℕ → ℕ → Result Adjusted Refusal
unfolding table_figures
figures_answer t rows columns k observed places = outcome (adjustment_call_checks t rows columns k observed places) (accepted_figures rows (table_figures t rows columns k observed))

unfoldable pub figures_work : List Float → ℕ → ℕ → ℕ → ℕ → List Float → List Float
figures_work t rows columns k observed work = afterwards (adjustment_call_checks t rows columns k observed (length work)) (cleared rows work) work
