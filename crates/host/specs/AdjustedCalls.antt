-- The calls for hosts written in C that tell adjusted figures, of a table and of a trial file. Definitions only.
-- A call answers 0, or 100 plus the refusal number.
--   table_adjusted_checks t .. work places, table_adjusted_refusal  of a table, a work buffer of so many values and a buffer of so many figures: 4, 9, 10, 11, then 12 for either
--   table_adjusted_answer t .. work places  what the call returns
--   table_adjusted_work t .. work places  the work buffer afterwards: plus zero in its first places, one for each row
--   table_adjusted_buffer t .. work buf   the buffer afterwards: the figure of each column in its first places
--   trial_adjusted_checks bytes places, trial_adjusted_refusal  of a file and a buffer of so many figures: what the file is turned away for, then 12
--   trial_adjusted_answer bytes places    what the call returns
--   trial_adjusted_buffer bytes buf       the buffer afterwards: the figure of each offer in its first places
--   trial_adjusted_rows bytes places old  the place for the rows afterwards, which held `old`: M
use Rattle.std.specs.Prelude.{ℕ, ◌+◌, List, ◌++◌, length, Float}
use Rattle.refusals.specs.Answers.{Checks, answer, first_refusal, afterwards}
use Rattle.refusals.specs.Buffers.{too_short, written, cleared}
use Rattle.adjustment.specs.Adjusted.{table_figures}
use Rattle.adjustment.specs.Answers.{adjustment_checks, adjustment_call_checks}
use Rattle.trial.specs.Exchange.{row_total}
use Rattle.words.specs.Words.{words_of}
use Rattle.trialfile.specs.Files.{trial_of, file_checks}
use Rattle.trialadjustment.specs.TrialFigures.{trial_figures}
use Rattle.host.specs.Calls.{file_offers}

-- ---- a table

abbrev pub table_adjusted_checks : List Float → ℕ → ℕ → ℕ → ℕ → ℕ → ℕ → Checks
table_adjusted_checks t rows columns k observed work places = adjustment_call_checks t rows columns k observed work ++ too_short places columns

unfoldable pub table_adjusted_refusal : List Float → ℕ → ℕ → ℕ → ℕ → ℕ → ℕ → ℕ
unfolding first_refusal adjustment_checks
table_adjusted_refusal t rows columns k observed work places = first_refusal (table_adjusted_checks t rows columns k observed work places)

unfoldable pub table_adjusted_answer : List Float → ℕ → ℕ → ℕ → ℕ → ℕ → ℕ → ℕ
unfolding answer adjustment_checks
table_adjusted_answer t rows columns k observed work places = answer (table_adjusted_checks t rows columns k observed work places) 0 (λ n. 100 + n)

unfoldable pub table_adjusted_work : List Float → ℕ → ℕ → ℕ → ℕ → List Float → ℕ → List Float
unfolding answer adjustment_checks
table_adjusted_work t rows columns k observed work places = afterwards (table_adjusted_checks t rows columns k observed (length work) places) (cleared rows work) work

unfoldable pub table_adjusted_buffer : List Float → ℕ → ℕ → ℕ → ℕ → ℕ → List ℕ → List ℕ
unfolding answer adjustment_checks table_figures
table_adjusted_buffer t rows columns k observed work buf = afterwards (table_adjusted_checks t rows columns k observed work (length buf)) (written (table_figures t rows columns k observed) buf) buf

-- ---- a file

abbrev pub trial_adjusted_checks : List ℕ → ℕ → Checks
trial_adjusted_checks bytes places = file_checks bytes ++ too_short places (file_offers bytes)

unfoldable pub trial_adjusted_refusal : List ℕ → ℕ → ℕ
unfolding first_refusal file_checks
trial_adjusted_refusal bytes places = first_refusal (trial_adjusted_checks bytes places)

unfoldable pub trial_adjusted_answer : List ℕ → ℕ → ℕ
unfolding answer file_checks trial_of words_of
trial_adjusted_answer bytes places = answer (trial_adjusted_checks bytes places) 0 (λ n. 100 + n)

unfoldable pub trial_adjusted_buffer : List ℕ → List ℕ → List ℕ
unfolding answer file_checks trial_figures trial_of words_of
trial_adjusted_buffer bytes buf = afterwards (trial_adjusted_checks bytes (length buf)) (written (trial_figures (trial_of (words_of bytes))) buf) buf

unfoldable pub trial_adjusted_rows : List ℕ → ℕ → ℕ → ℕ
unfolding answer file_checks row_total trial_of words_of
trial_adjusted_rows bytes places old = afterwards (trial_adjusted_checks bytes places) (row_total (trial_of (words_of bytes))) old
