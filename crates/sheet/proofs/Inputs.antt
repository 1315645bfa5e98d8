-- A sheet takes no notice of what comes after one byte more than the longest file.
--   cut_off        the sheet of the first `input_room` bytes is the sheet of them all
use Prim.Native.Nat.{ℕ}
use mathlib.Core.Path.{◌≡◌}
use mathlib.Core.List.{List}
use lib.ListN.{take}
use Rattle.limits.specs.Limits.{input_room}
use Rattle.adjustment.specs.Answers.{accepted_figures}
use Rattle.trial.specs.Exchange.{row_total}
use Rattle.trialfile.specs.Files.{trial_of}
use Rattle.trialfile.proofs.Inputs.{file-cut}
use Rattle.trialadjustment.specs.TrialFigures.{trial_figures}
use Rattle.text.specs.Text.{refused_text}
use Rattle.sheet.specs.Sheets.{sheet_text, sheet_of}

pub cut_off : (bytes : List ℕ) → sheet_of (take input_room bytes) ≡ sheet_of bytes
unfolding sheet_of
cut_off = file-cut (λ ws. sheet_text (trial_of ws) (accepted_figures (row_total (trial_of ws)) (trial_figures (trial_of ws)))) refused_text
