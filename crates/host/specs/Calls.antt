-- The calls for hosts written in C: on a trial file, and in the same style on a table. Definitions only.
--   verdict_bytes n vs       the first n verdicts, a byte each (`verdict_byte`): the rejecting step, 0 for kept, 255 for set aside
--   verdicts_answer cs n vs  what a call that tells verdicts returns, refused by the conditions cs or with the verdicts vs of n offers: the number of rejected, or 100 plus the refusal number
--   verdicts_buffer cs n vs buf    its buffer afterwards: the verdict of each offer in its first bytes
--   file_offers bytes        how many offers the trial of a file has
--   trial_verdicts_checks bytes places, trial_verdicts_refusal  of a file and a buffer of so many bytes: what the file is turned away for, then 12
--   trial_verdicts_answer bytes places, trial_verdicts_buffer bytes buf  what the call returns, and its buffer afterwards
--   table_verdicts_checks t .. work places, table_verdicts_refusal  of a table, a work buffer of so many values and a buffer of so many bytes: 4, 3, 9, 10, 11, then 12 for either
--   table_verdicts_answer t .. work places, table_verdicts_buffer t .. work buf  what the call returns, and its buffer afterwards, a byte for each column
--   table_verdicts_work t .. work places  the work buffer afterwards: plus zero in its first places, one for each row
use Rattle.std.specs.Prelude.{ℕ, ◌+◌, List, ◌++◌, map, length, take, Float}
use Rattle.refusals.specs.Answers.{Checks, answer, first_refusal, afterwards}
use Rattle.refusals.specs.Buffers.{too_short, written, cleared}
use Rattle.runs.specs.FullRuns.{accepted_run}
use Rattle.runs.specs.Tables.{table_run}
use Rattle.runs.specs.declared.Verdict.{Verdict}
use Rattle.stepdown.specs.Refusals.{table_checks, table_run_checks}
use Rattle.verdicts.specs.Verdicts.{verdict_byte, rejected_count}
use Rattle.words.specs.Words.{words_of}
use Rattle.trialfile.specs.Files.{trial_of, file_checks}
use Rattle.trialrun.specs.TrialRuns.{trial_run}

abbrev pub verdict_bytes : ℕ → List Verdict → List ℕ
verdict_bytes n vs = map verdict_byte (take n vs)

abbrev pub verdicts_answer : Checks → ℕ → List Verdict → ℕ
verdicts_answer cs n vs = answer cs (rejected_count n vs) (λ m. 100 + m)

abbrev pub verdicts_buffer : Checks → ℕ → List Verdict → List ℕ → List ℕ
verdicts_buffer cs n vs buf = afterwards cs (written (verdict_bytes n vs) buf) buf

-- ---- a file

abbrev pub file_offers : List ℕ → ℕ
file_offers bytes = (trial_of (words_of bytes)).shape.offers

abbrev pub trial_verdicts_checks : List ℕ → ℕ → Checks
trial_verdicts_checks bytes places = file_checks bytes ++ too_short places (file_offers bytes)

unfoldable pub trial_verdicts_refusal : List ℕ → ℕ → ℕ
unfolding first_refusal file_checks
trial_verdicts_refusal bytes places = first_refusal (trial_verdicts_checks bytes places)

unfoldable pub trial_verdicts_answer : List ℕ → ℕ → ℕ
unfolding answer file_checks rejected_count accepted_run trial_run trial_of words_of
trial_verdicts_answer bytes places = verdicts_answer (trial_verdicts_checks bytes places) (file_offers bytes) (accepted_run (trial_run (trial_of (words_of bytes)))).verdicts

unfoldable pub trial_verdicts_buffer : List ℕ → List ℕ → List ℕ
unfolding answer file_checks accepted_run trial_run trial_of words_of
trial_verdicts_buffer bytes buf = verdicts_buffer (trial_verdicts_checks bytes (length buf)) (file_offers bytes) (accepted_run (trial_run (trial_of (words_of bytes)))).verdicts buf

-- ---- a table

abbrev pub table_verdicts_checks : List Float → ℕ → ℕ → ℕ → ℕ → ℕ → ℕ → ℕ → ℕ → Checks
table_verdicts_checks t rows columns k a b observed work places = table_run_checks t rows columns k a b observed work ++ too_short places columns

unfoldable pub table_verdicts_refusal : List Float → ℕ → ℕ → ℕ → ℕ → ℕ → ℕ → ℕ → ℕ → ℕ
unfolding first_refusal table_checks
table_verdicts_refusal t rows columns k a b observed work places = first_refusal (table_verdicts_checks t rows columns k a b observed work places)

unfoldable pub table_verdicts_answer : List Float → ℕ → ℕ → ℕ → ℕ → ℕ → ℕ → ℕ → ℕ → ℕ
unfolding answer table_checks rejected_count accepted_run table_run
table_verdicts_answer t rows columns k a b observed work places =
    verdicts_answer (table_verdicts_checks t rows columns k a b observed work places) columns (accepted_run (table_run t rows columns k a b observed)).verdicts

unfoldable pub table_verdicts_work : List Float → ℕ → ℕ → ℕ → ℕ → ℕ → ℕ → List Float → ℕ → List Float
unfolding answer table_checks
table_verdicts_work t rows columns k a b observed work places = afterwards (table_verdicts_checks t rows columns k a b observed (length work) places) (cleared rows work) work

unfoldable pub table_verdicts_buffer : List Float → ℕ → ℕ → ℕ → ℕ → ℕ → ℕ → ℕ → List ℕ → List ℕ
unfolding answer table_checks accepted_run table_run
table_verdicts_buffer t rows columns k a b observed work buf =
    verdicts_buffer (table_verdicts_checks t rows columns k a b observed work (length buf)) columns (accepted_run (table_run t rows columns k a b observed)).verdicts buf
