-- The full run of a trial file. Definitions only.
--   accepted_by run t    what the file of the trial t answers, by a full run of it
--   file_by run bytes    what a file answers, by a full run of its trial
--   file_run bytes       the same, by the full run of the trial's table
use Rattle.std.specs.Prelude.{ℕ, List, Result}
use Rattle.refusals.specs.Answers.{outcome}
use Rattle.refusals.specs.declared.refusal.Refusal.{Refusal}
use Rattle.runs.specs.Stepdown.{Outcome}
use Rattle.runs.specs.FullRuns.{accepted_run}
use Rattle.trial.specs.declared.Trial.{Trial}
use Rattle.words.specs.Words.{words_of}
use Rattle.trialfile.specs.Files.{trial_of, file_checks}
use Rattle.trialrun.specs.TrialRuns.{trial_run}
use Rattle.trialrun.specs.declared.FileRun.{FileRun}

abbrev pub accepted_by : (Trial → Outcome) → Trial → FileRun
accepted_by run t = record { trial = t; run = accepted_run (run t) }

abbrev pub file_by : (Trial → Outcome) → List ℕ → Result FileRun Refusal
file_by run bytes = outcome (file_checks bytes) (accepted_by run (trial_of (words_of bytes)))

unfoldable pub file_run : List ℕ → Result FileRun Refusal
unfolding trial_of words_of
file_run bytes = file_by trial_run bytes
