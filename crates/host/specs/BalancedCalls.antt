-- The calls for hosts written in C over balanced tables, of a table and of a trial file. Definitions only.
--   table_balanced_answer t rows columns places   what the call for the balanced table of a table returns: 0, or 100 plus the refusal number
--   trial_balanced_verdicts_answer bytes places, trial_balanced_verdicts_buffer bytes buf  what the call for the balanced run of a file returns, and its buffer afterwards
-- The buffer of the first is `balance_buffer` (tablebalance/specs/Answers.antt); a file is refused as for the plain run: `trial_verdicts_checks` (Calls.antt).
use Rattle.std.specs.Prelude.{ℕ, ◌+◌, List, length, Float}
use Rattle.refusals.specs.Answers.{answer}
use Rattle.runs.specs.FullRuns.{accepted_run}
use Rattle.verdicts.specs.Verdicts.{rejected_count}
use Rattle.words.specs.Words.{words_of}
use Rattle.trialfile.specs.Files.{trial_of, file_checks}
use Rattle.tablebalance.specs.Answers.{balance_checks}
use Rattle.trialbalance.specs.TrialBalance.{trial_balanced_run}
use Rattle.host.specs.Calls.{verdicts_answer, verdicts_buffer, file_offers, trial_verdicts_checks}

unfoldable pub table_balanced_answer : List Float → ℕ → ℕ → ℕ → ℕ
unfolding answer balance_checks
table_balanced_answer t rows columns places = answer (balance_checks t rows columns places) 0 (λ n. 100 + n)

unfoldable pub trial_balanced_verdicts_answer : List ℕ → ℕ → ℕ
unfolding answer file_checks rejected_count accepted_run trial_balanced_run trial_of words_of
trial_balanced_verdicts_answer bytes places = verdicts_answer (trial_verdicts_checks bytes places) (file_offers bytes) (accepted_run (trial_balanced_run (trial_of (words_of bytes)))).verdicts

unfoldable pub trial_balanced_verdicts_buffer : List ℕ → List ℕ → List ℕ
unfolding answer file_checks accepted_run trial_balanced_run trial_of words_of
trial_balanced_verdicts_buffer bytes buf = verdicts_buffer (trial_verdicts_checks bytes (length buf)) (file_offers bytes) (accepted_run (trial_balanced_run (trial_of (words_of bytes)))).verdicts buf
