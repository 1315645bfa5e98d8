-- Laws of the text for what a file's figures answer.
--   text-is                      it is the file's sheet
--   few-offers                   the offers of an accepted file are few
use Prim.Native.Nat.{ℕ, ◌≤◌}
use mathlib.Core.Path.{◌≡◌, refl}
use mathlib.Core.List.{List}
use Rattle.std.proofs.Common.{IfOk}
use Rattle.limits.specs.Limits.{offers_most}
use Rattle.refusals.proofs.Answers.{none_first, outcome-answer, ok-each}
use Rattle.text.specs.Text.{refused_text}
use Rattle.trial.proofs.Accepted.{accepted}
use Rattle.words.specs.Words.{words_of}
use Rattle.trialfile.specs.Files.{trial_of, file_checks, file_refusal}
use Rattle.trialfile.proofs.Taken.{read-accepted}
use Rattle.trialadjustment.specs.FileFigures.{accepted_file, file_figures}
use Rattle.sheet.specs.Sheets.{sheet_text, sheet_of}
use Rattle.sheet.specs.Internal.{text_of}

-- what is composed for the answer of a file's figures is the file's sheet
pub text-is : (bytes : List ℕ) → text_of (file_figures bytes) ≡ sheet_of bytes
unfolding sheet_of file_figures
text-is bytes = outcome-answer text_of refused_text (λ r. refl) (file_checks bytes) (accepted_file (trial_of (words_of bytes)))

pub few-offers : (bytes : List ℕ) → IfOk (file_figures bytes) (λ f. f.trial.shape.offers ≤ offers_most)
unfolding file_figures file_refusal
few-offers bytes =
    ok-each (file_checks bytes) (accepted_file (trial_of (words_of bytes))) (λ f. f.trial.shape.offers ≤ offers_most)
    (λ h. (accepted (trial_of (words_of bytes)) (read-accepted bytes (none_first (file_checks bytes) h))).offers-most)
