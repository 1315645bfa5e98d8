-- The text of the buyers' sheet. Definitions only.
--   sheet_line code digits n  an offer: printed code and figure
--   sheet_line_at l a i       the line of offer i, from 0
--   sheet_text t a            the sheet of a trial with the figures a: a line for each offer in file order, then `end` and the number of rows
--   sheet_of bytes            all that is printed for a file: the sheet of its trial, or its refusal
use Rattle.std.specs.Prelude.{ℕ, List, [], ◌∷◌, ◌++◌, get_or}
use Rattle.refusals.specs.Answers.{answer}
use Rattle.text.specs.Ascii.{ascii}
use Rattle.text.specs.Text.{printed, decimal, line, lines_to, refused_text}
use Rattle.adjustment.specs.Answers.{accepted_figures}
use Rattle.adjustment.specs.declared.Adjusted.{Adjusted}
use Rattle.trial.specs.Exchange.{row_total}
use Rattle.trial.specs.declared.Labels.{Labels}
use Rattle.trial.specs.declared.Trial.{Trial}
use Rattle.words.specs.Words.{words_of}
use Rattle.trialfile.specs.Files.{trial_of, file_checks}
use Rattle.trialadjustment.specs.TrialFigures.{trial_figures}

abbrev pub sheet_line : ℕ → ℕ → ℕ → List ℕ
sheet_line code digits n = line (printed digits code) (decimal n ∷ [])

-- no line looks beyond the arrays' ends
abbrev pub sheet_line_at : Labels → Adjusted → ℕ → List ℕ
sheet_line_at l a i = sheet_line (get_or l.codes i 0) (get_or l.digits i 0) (get_or a.figures i 0)

unfoldable pub sheet_text : Trial → Adjusted → List ℕ
unfolding lines_to
sheet_text t a = lines_to t.shape.offers (sheet_line_at t.labels a) ++ line (ascii "end") (decimal a.rows ∷ [])

unfoldable pub sheet_of : List ℕ → List ℕ
unfolding answer file_checks trial_of words_of row_total trial_figures sheet_text
sheet_of bytes =
    let t = trial_of (words_of bytes) in
    answer (file_checks bytes) (sheet_text t (accepted_figures (row_total t) (trial_figures t))) refused_text
