-- The balanced full run of a trial file. Definitions only.
--   file_balanced_run bytes   what a file answers, by the full run of its trial's balanced table; a file that is turned away answers as for the plain run
use Rattle.std.specs.Prelude.{ℕ, List, Result}
use Rattle.refusals.specs.declared.refusal.Refusal.{Refusal}
use Rattle.words.specs.Words.{words_of}
use Rattle.trialfile.specs.Files.{trial_of}
use Rattle.trialrun.specs.FileRuns.{file_by}
use Rattle.trialrun.specs.declared.FileRun.{FileRun}
use Rattle.trialbalance.specs.TrialBalance.{trial_balanced_run}

unfoldable pub file_balanced_run : List ℕ → Result FileRun Refusal
unfolding trial_of words_of
file_balanced_run bytes = file_by trial_balanced_run bytes
