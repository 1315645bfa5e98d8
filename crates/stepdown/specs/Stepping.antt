-- Runs that are taken step by step. Definitions only.
--   StepTaken            an accepted step: the run that it hands back, and its record
--   onward s more        the steps that an answer to a step makes: it and those that follow, or none
--   stepped n t places r          the steps that one gets by asking for steps from r on until one is refused, at most n of them
--   stepped_records n t places r  their records
--   last_run r ss        the run that is held after them
use Rattle.std.specs.Prelude.{ℕ, zero, suc, List, [], ◌∷◌, map, Result, Ok, Err, Float}
use Rattle.refusals.specs.declared.refusal.Refusal.{Refusal}
use Rattle.runs.specs.declared.Record.{Record}
use Rattle.stepdown.specs.Answers.{step_answer}
use Rattle.stepdown.specs.declared.Run.{Run}

pub record StepTaken : Type 0 where
  pub run : Run
  pub logged : Record

-- an accepted step and those that follow it, or none
abbrev pub onward : Result (Run × Record) Refusal → (Run → List StepTaken) → List StepTaken
onward (Ok p) more = record { run = p.0; logged = p.1 } ∷ more p.0
onward (Err n) more = []

unfoldable pub stepped : ℕ → List Float → ℕ → Run → List StepTaken
unfolding step_answer
stepped zero t places r = []
stepped (suc n) t places r = onward (step_answer t r places) (λ s. stepped n t places s)

unfoldable pub stepped_records : ℕ → List Float → ℕ → Run → List Record
unfolding stepped
stepped_records n t places r = map (λ s. s.logged) (stepped n t places r)

unfoldable pub last_run : Run → List StepTaken → Run
last_run r [] = r
last_run r (s ∷ ss) = last_run s.run ss
