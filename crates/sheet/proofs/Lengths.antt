-- How long a sheet can be.
--   sheet-fits      every text is at most that long
--   sheet-whole     a buffer of `longest_sheet` places holds every text whole
use Prim.Native.Nat.{ℕ, ◌*◌, ◌≤◌}
use native.Mathlib.Omega.{arith}
use mathlib.Core.Path.{◌≡◌}
use mathlib.Core.List.{List, [], ◌∷◌}
use lib.ListN.{length, get_or, take, length-append}
use Rattle.limits.specs.Limits.{digits_most, sheet_line_most, longest_sheet}
use Rattle.text.specs.Ascii.{ascii}
use Rattle.refusals.specs.Answers.{answer, value_or}
use Rattle.text.specs.Text.{printed, decimal, line, lines_to, refused_text}
use Rattle.text.specs.Renderings.{text_answer, after_text}
use Rattle.std.proofs.Common.{Result}
use Rattle.refusals.specs.declared.refusal.Refusal.{Refusal}
use Rattle.text.proofs.Rendered.{text-whole}
use Rattle.text.proofs.Lengths.{printed-most, numbered-most, lines-most, answer-most}
use Rattle.adjustment.specs.Answers.{accepted_figures}
use Rattle.adjustment.specs.declared.Adjusted.{Adjusted}
use Rattle.trial.specs.Exchange.{row_total}
use Rattle.trial.specs.declared.Trial.{Trial}
use Rattle.trial.proofs.Accepted.{Accepted, accepted}
use Rattle.words.specs.Words.{words_of}
use Rattle.trialfile.specs.Files.{trial_of, file_checks, file_refusal}
use Rattle.trialfile.proofs.Taken.{read-accepted}
use Rattle.trialfile.proofs.Inputs.{digits-few}
use Rattle.trialadjustment.specs.TrialFigures.{trial_figures}
use Rattle.sheet.specs.Sheets.{sheet_line, sheet_line_at, sheet_text, sheet_of}

offer-most : (code digits n : ℕ) → digits ≤ digits_most → length (sheet_line code digits n) ≤ sheet_line_most
offer-most code digits n h = numbered-most (printed digits code) n digits_most (omega (arith, printed-most digits code))

trial-fits : (t : Trial) (a : Adjusted) → Accepted t → length (sheet_text t a) ≤ longest_sheet
unfolding sheet_text
trial-fits t a acc =
    let offers = lines_to t.shape.offers (sheet_line_at t.labels a) in
    let b : length offers ≤ t.shape.offers * sheet_line_most = lines-most t.shape.offers sheet_line_most (sheet_line_at t.labels a) (λ i l. offer-most (get_or t.labels.codes i 0) (get_or t.labels.digits i 0) (get_or a.figures i 0) (digits-few t acc i l)) in
    omega (arith, length-append offers (line (ascii "end") (decimal a.rows ∷ [])), b, numbered-most (ascii "end") a.rows 3 (omega arith), acc.offers-most)

file-fits : (bytes : List ℕ) (a : Adjusted) → length (answer (file_checks bytes) (sheet_text (trial_of (words_of bytes)) a) refused_text) ≤ longest_sheet
unfolding file_refusal
file-fits bytes a = let t = trial_of (words_of bytes) in answer-most (file_checks bytes) (sheet_text t a) longest_sheet (omega arith) (λ z. trial-fits t a (accepted t (read-accepted bytes z)))

pub sheet-fits : (bytes : List ℕ) → length (sheet_of bytes) ≤ longest_sheet
unfolding sheet_of
sheet-fits bytes = let t = trial_of (words_of bytes) in file-fits bytes (accepted_figures (row_total t) (trial_figures t))

pub sheet-whole : (bytes buf out : List ℕ) (r : Result ℕ Refusal) → longest_sheet ≤ length buf → r ≡ text_answer (sheet_of bytes) (length buf) → out ≡ after_text (sheet_of bytes) buf → take (value_or 0 r) out ≡ sheet_of bytes
sheet-whole bytes buf out r h p q = text-whole (sheet_of bytes) buf out r (omega (arith, sheet-fits bytes)) p q
