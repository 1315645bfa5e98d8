-- Examples, by the calls for C: the trial W as a file, of which 0042 is rejected in step 1 and 7 is kept, and the table P, of which step 1 rejects two.
-- Their adjusted figures are 1 and 3 of 8 rows, and 0, 1 and 2.
-- Of W with a third offer of zeros that offer's byte is 255, and its figure M; of two offers with k 2, of which one is set aside, the other is kept.
-- Over balanced tables W has the same verdicts; of samples/saffron.trial, milk 4011 and saffron 0907, the plain run rejects none and the balanced one saffron.
use mathlib.Core.Path.{◌≡◌, refl}
use mathlib.Core.List.{[], ◌∷◌}
use lib.Ieee.{of_int, lt, le}
use Rattle.refusals.specs.Limits.{bad_sizes}
use Rattle.runs.specs.FullRuns.{accepted_run}
use Rattle.runs.specs.Examples.{P}
use Rattle.words.specs.Words.{bytes_of, signed}
use Rattle.trialfile.specs.Examples.{words_w, words_saffron, words_aside, words_cancelled}
use Rattle.trialrun.specs.TrialRuns.{trial_run}
use Rattle.trialbalance.specs.TrialBalance.{trial_balanced_run}
use Rattle.host.specs.Calls.{trial_verdicts_answer, trial_verdicts_buffer, table_verdicts_answer, table_verdicts_buffer}
use Rattle.host.specs.AdjustedCalls.{trial_adjusted_answer, trial_adjusted_buffer, trial_adjusted_rows, table_adjusted_answer, table_adjusted_buffer}
use Rattle.host.specs.BalancedCalls.{trial_balanced_verdicts_answer, trial_balanced_verdicts_buffer}

-- one offer is rejected
pub w-answer : trial_verdicts_answer (bytes_of words_w) 2 ≡ 1
unfolding trial_verdicts_answer bytes_of words_w signed accepted_run trial_run lt le
w-answer = refl

-- a byte for each offer; the byte beyond is unchanged
pub w-bytes : trial_verdicts_buffer (bytes_of words_w) (7 ∷ 7 ∷ 7 ∷ []) ≡ 1 ∷ 0 ∷ 7 ∷ []
unfolding trial_verdicts_buffer bytes_of words_w signed accepted_run trial_run lt le
w-bytes = refl

-- a buffer of one byte is too short
pub w-short : trial_verdicts_answer (bytes_of words_w) 1 ≡ 112
unfolding trial_verdicts_answer bytes_of words_w signed
w-short = refl

pub p-answer : table_verdicts_answer P 4 3 2 1 4 0 4 3 ≡ 2
unfolding table_verdicts_answer lt le
p-answer = refl

pub p-bytes : table_verdicts_buffer P 4 3 2 1 4 0 4 (7 ∷ 7 ∷ 7 ∷ 7 ∷ []) ≡ 1 ∷ 1 ∷ 0 ∷ 7 ∷ []
unfolding table_verdicts_buffer lt le
p-bytes = refl

-- ---- adjusted figures

pub w-adjusted : (trial_adjusted_answer (bytes_of words_w) 3 ≡ 0) × (trial_adjusted_buffer (bytes_of words_w) (7 ∷ 7 ∷ 7 ∷ []) ≡ 1 ∷ 3 ∷ 7 ∷ []) × (trial_adjusted_rows (bytes_of words_w) 3 7 ≡ 8)
unfolding trial_adjusted_answer trial_adjusted_buffer trial_adjusted_rows bytes_of words_w signed lt le
w-adjusted = (refl, refl, refl)

pub w-adjusted-short : (trial_adjusted_answer (bytes_of words_w) 1 ≡ 112) × (trial_adjusted_buffer (bytes_of words_w) (7 ∷ []) ≡ 7 ∷ []) × (trial_adjusted_rows (bytes_of words_w) 1 7 ≡ 7)
unfolding trial_adjusted_answer trial_adjusted_buffer trial_adjusted_rows bytes_of words_w signed
w-adjusted-short = (refl, refl, refl)

pub p-adjusted : (table_adjusted_answer P 4 3 2 0 4 4 ≡ 0) × (table_adjusted_buffer P 4 3 2 0 4 (7 ∷ 7 ∷ 7 ∷ 7 ∷ []) ≡ 0 ∷ 1 ∷ 2 ∷ 7 ∷ [])
unfolding table_adjusted_answer table_adjusted_buffer bad_sizes lt le
p-adjusted = (refl, refl)

-- ---- offers that are set aside

-- one offer is rejected; the byte of the third offer is 255 in both runs
pub aside-bytes : (trial_verdicts_answer (bytes_of words_aside) 3 ≡ 1) × (trial_verdicts_buffer (bytes_of words_aside) (7 ∷ 7 ∷ 7 ∷ 7 ∷ []) ≡ 1 ∷ 0 ∷ 255 ∷ 7 ∷ [])
unfolding trial_verdicts_answer trial_verdicts_buffer bytes_of words_aside signed accepted_run trial_run lt le
aside-bytes = (refl, refl)

pub aside-balanced : (trial_balanced_verdicts_answer (bytes_of words_aside) 3 ≡ 1) × (trial_balanced_verdicts_buffer (bytes_of words_aside) (7 ∷ 7 ∷ 7 ∷ 7 ∷ []) ≡ 1 ∷ 0 ∷ 255 ∷ 7 ∷ [])
unfolding trial_balanced_verdicts_answer trial_balanced_verdicts_buffer bytes_of words_aside signed accepted_run trial_balanced_run of_int lt le
aside-balanced = (refl, refl)

-- fewer than k offers remain
pub cancelled-bytes : (trial_verdicts_answer (bytes_of words_cancelled) 2 ≡ 0) × (trial_verdicts_buffer (bytes_of words_cancelled) (7 ∷ 7 ∷ 7 ∷ []) ≡ 0 ∷ 255 ∷ 7 ∷ [])
unfolding trial_verdicts_answer trial_verdicts_buffer bytes_of words_cancelled signed accepted_run trial_run lt le
cancelled-bytes = (refl, refl)

pub aside-adjusted : (trial_adjusted_answer (bytes_of words_aside) 4 ≡ 0) × (trial_adjusted_buffer (bytes_of words_aside) (7 ∷ 7 ∷ 7 ∷ 7 ∷ []) ≡ 1 ∷ 3 ∷ 8 ∷ 7 ∷ [])
unfolding trial_adjusted_answer trial_adjusted_buffer bytes_of words_aside signed lt le
aside-adjusted = (refl, refl)

-- ---- balanced tables

pub saffron-balanced : (trial_verdicts_answer (bytes_of words_saffron) 2 ≡ 0) × (trial_balanced_verdicts_answer (bytes_of words_saffron) 2 ≡ 1) × (trial_balanced_verdicts_buffer (bytes_of words_saffron) (7 ∷ 7 ∷ 7 ∷ []) ≡ 0 ∷ 1 ∷ 7 ∷ [])
unfolding trial_verdicts_answer trial_balanced_verdicts_answer trial_balanced_verdicts_buffer bytes_of words_saffron signed accepted_run trial_run trial_balanced_run of_int lt le
saffron-balanced = (refl, refl, refl)

pub w-balanced : (trial_balanced_verdicts_answer (bytes_of words_w) 2 ≡ 1) × (trial_balanced_verdicts_buffer (bytes_of words_w) (7 ∷ 7 ∷ 7 ∷ []) ≡ 1 ∷ 0 ∷ 7 ∷ [])
unfolding trial_balanced_verdicts_answer trial_balanced_verdicts_buffer bytes_of words_w signed accepted_run trial_balanced_run of_int lt le
w-balanced = (refl, refl)
