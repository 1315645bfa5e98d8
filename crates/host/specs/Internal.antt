-- Definitions that only the private function `tell` cites. Definitions only; a reader of the promises needs none of them.
--   Tellable x           of what a file's run answers, whichever run it is: where it is accepted the offers are at most 32 and each verdict fits a byte
--   Told x buf r out     r, and `out` that held buf, are what a call over x gives: refused by any conditions cs that refuse as x does, then by 12, and else the number of rejected and the verdicts of the offers
use Rattle.std.specs.Prelude.{ℕ, ◌≤◌, ◌≡◌, List, ◌++◌, length, T, Result, Ok}
use Rattle.refusals.specs.Answers.{Checks, outcome}
use Rattle.refusals.specs.declared.refusal.Refusal.{Refusal}
use Rattle.refusals.specs.Buffers.{too_short}
use Rattle.verdicts.specs.Internal.{small_bytes}
use Rattle.trialrun.specs.declared.FileRun.{FileRun}
use Rattle.host.specs.Calls.{verdicts_answer, verdicts_buffer}

pub record Tellable (x : Result FileRun Refusal) : Type 0 where
  pub few : (f : FileRun) → x ≡ Ok f → f.trial.shape.offers ≤ 32
  pub small : (f : FileRun) → x ≡ Ok f → T (small_bytes f.run.verdicts)

abbrev pub Told : Result FileRun Refusal → List ℕ → ℕ → List ℕ → Type 0
Told x buf r out =
    (cs : Checks) (f : FileRun) → x ≡ outcome cs f
    → (r ≡ verdicts_answer (cs ++ too_short (length buf) f.trial.shape.offers) f.trial.shape.offers f.run.verdicts)
    × (out ≡ verdicts_buffer (cs ++ too_short (length buf) f.trial.shape.offers) f.trial.shape.offers f.run.verdicts buf)
