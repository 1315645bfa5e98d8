-- What the contracts of the parts cite; nothing of the sheet's meaning stands here. Definitions only.
--   text_of answer        the text for what a file's figures answer: the sheet, or the refusal
use Rattle.std.specs.Prelude.{List, ℕ, Result, Ok, Err}
use Rattle.refusals.specs.Answers.{number}
use Rattle.refusals.specs.declared.refusal.Refusal.{Refusal}
use Rattle.text.specs.Text.{refused_text}
use Rattle.trialadjustment.specs.declared.FileFigures.{FileFigures}
use Rattle.sheet.specs.Sheets.{sheet_text}

abbrev pub text_of : Result FileFigures Refusal → List ℕ
text_of (Ok f) = sheet_text f.trial f.adjusted
text_of (Err r) = refused_text (number r)
