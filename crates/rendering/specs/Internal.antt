-- What the contracts of the parts cite; nothing of the report's meaning stands here. Definitions only.
--   Printable n r        a full run with few enough steps, whose critical values are whole numbers and were set by some of n offers
--   text_of f             the text for what a file's full run answers: the report, or the refusal
--   PrintableFile f      what is known of an accepted file's trial and run
use Rattle.std.specs.Prelude.{ℕ, ◌≤◌, ◌<◌, List, T, Result, Ok, Err}
use Rattle.std.specs.Float.{binary64}
use Rattle.std.specs.Float.Ieee.{fits, in_signed}
use Rattle.limits.specs.Limits.{offers_most, steps_most}
use Rattle.runs.specs.declared.FullRun.{FullRun}
use Rattle.trialrun.specs.declared.FileRun.{FileRun}
use Rattle.refusals.specs.Answers.{number}
use Rattle.refusals.specs.declared.refusal.Refusal.{Refusal}
use Rattle.text.specs.Text.{refused_text}
use Rattle.rendering.specs.Reports.{record_at, trial_text}

pub record Printable (n : ℕ) (r : FullRun) : Type 0 where
  pub few-steps : r.steps ≤ steps_most
  pub whole : (i : ℕ) → i < r.steps → T (in_signed binary64 63 (record_at r i).critical)
  pub held : (i : ℕ) → i < r.steps → T (fits binary64 (record_at r i).critical)
  pub named : (i : ℕ) → i < r.steps → (0 < (record_at r i).offer) × ((record_at r i).offer ≤ n)

abbrev pub text_of : Result FileRun Refusal → List ℕ
text_of (Ok f) = trial_text f.trial f.run
text_of (Err r) = refused_text (number r)

pub record PrintableFile (f : FileRun) : Type 0 where
  pub offers-most : f.trial.shape.offers ≤ offers_most
  pub run-printable : Printable offers_most f.run
