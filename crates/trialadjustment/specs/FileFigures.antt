-- The adjusted figures of a trial file. Definitions only.
--   accepted_file t      what the file of the trial t answers: the figures of the trial
--   file_figures bytes   what a file answers
use Rattle.std.specs.Prelude.{ℕ, List, Result}
use Rattle.refusals.specs.Answers.{outcome}
use Rattle.refusals.specs.declared.refusal.Refusal.{Refusal}
use Rattle.adjustment.specs.Answers.{accepted_figures}
use Rattle.trial.specs.Exchange.{row_total}
use Rattle.trial.specs.declared.Trial.{Trial}
use Rattle.words.specs.Words.{words_of}
use Rattle.trialfile.specs.Files.{trial_of, file_checks}
use Rattle.trialadjustment.specs.TrialFigures.{trial_figures}
use Rattle.trialadjustment.specs.declared.FileFigures.{FileFigures}

abbrev pub accepted_file : Trial → FileFigures
accepted_file t = record { trial = t; adjusted = accepted_figures (row_total t) (trial_figures t) }

unfoldable pub file_figures : List ℕ → Result FileFigures Refusal
unfolding trial_of words_of
file_figures bytes = outcome (file_checks bytes) (accepted_file (trial_of (words_of bytes)))
