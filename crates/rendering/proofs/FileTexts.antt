-- Laws of the text for what a file's full run answers.
--   text-by                       it is the file's report, by that run
use Prim.Native.Nat.{ℕ}
use mathlib.Core.Path.{◌≡◌, refl}
use mathlib.Core.List.{List}
use Rattle.refusals.proofs.Answers.{outcome-answer}
use Rattle.runs.specs.Stepdown.{Outcome}
use Rattle.trial.specs.declared.Trial.{Trial}
use Rattle.words.specs.Words.{words_of}
use Rattle.trialfile.specs.Files.{trial_of, file_checks}
use Rattle.trialrun.specs.FileRuns.{accepted_by, file_by}
use Rattle.text.specs.Text.{refused_text}
use Rattle.rendering.specs.Reports.{report_by}
use Rattle.rendering.specs.Internal.{text_of}

-- what is composed for the answer of a file's full run is the file's report, by that run
pub text-by : (run : Trial → Outcome) (bytes : List ℕ) → text_of (file_by run bytes) ≡ report_by run bytes
unfolding report_by
text-by run bytes = outcome-answer text_of refused_text (λ r. refl) (file_checks bytes) (accepted_by run (trial_of (words_of bytes)))
