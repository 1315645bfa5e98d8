-- Reports letter by letter, from the bytes of a file: W as printed, and balanced; both reports of the trial milk and
-- saffron, of trials with offers that are set aside, and of shops without partners.
--   w-report, w-balanced-report                 of W
--   saffron-read                                the file of milk and saffron is read as its trial
--   saffron-report, saffron-balanced-report     of milk and saffron: the milk sets the critical value; balanced, saffron is rejected
--   aside-report, aside-balanced-report         of W with a third offer of zeros: W's lines and that offer's
--   front-report         the same with that offer in front: who set the bar is told by its code
--   cancelled-report     of two offers with k 2: the differences of 0042 cancel, and it is not set aside; but fewer than k offers remain, so no step is run
--   zeros-report         of two offers of zeros: none remains
--   shops-report, shops-balanced-report         of 4 shops, 2 of them treated
--   two-shops-report, ten-shops-report          of the fewest shops; of 10 with 9 treated
use mathlib.Core.Path.{◌≡◌, refl}
use lib.Ieee.{lt, le, to_signed}
use Rattle.runs.specs.FullRuns.{accepted_run}
use Rattle.words.specs.Words.{bytes_of, signed}
use Rattle.trialfile.specs.Files.{reading_of}
use Rattle.trialfile.specs.Examples.{words_w, words_saffron, words_aside, words_front, words_cancelled, words_zeros, words_shops, words_two_shops, words_ten_shops}
use Rattle.trialrun.specs.TrialRuns.{trial_run}
use Rattle.trialbalance.specs.TrialBalance.{trial_balanced_run}
use Rattle.trialbalance.specs.Examples.{trial_saffron}
use Rattle.std.proofs.Common.{Ok}
use Rattle.text.specs.Ascii.{ascii}
use Rattle.text.specs.Text.{printed, decimal_up_to}
use Rattle.rendering.specs.Reports.{report_of, balanced_report_of}

pub w-report : report_of (bytes_of words_w) ≡ ascii "trial 3 2 1 2 8\nstep 1 4 4 0042\nstep 2 2 0 7\n0042 rejected 1 1\n7 kept 2 3\nend 1\n"
unfolding report_of bytes_of words_w signed accepted_run trial_run lt le to_signed printed decimal_up_to
w-report = refl

pub w-balanced-report : balanced_report_of (bytes_of words_w) ≡ ascii "trial 3 2 1 2 8\nstep 1 7 6 7\nstep 2 7 0 7\n0042 rejected 1 1\n7 kept 2 3\nend 1\n"
unfolding balanced_report_of bytes_of words_w signed accepted_run trial_balanced_run lt le to_signed printed decimal_up_to
w-balanced-report = refl

pub saffron-read : reading_of (bytes_of words_saffron) ≡ Ok trial_saffron
unfolding reading_of bytes_of words_saffron trial_saffron signed
saffron-read = refl

pub saffron-report : report_of (bytes_of words_saffron) ≡ ascii "trial 3 2 1 2 8\nstep 1 400 0 4011\n4011 kept 1 3\n0907 kept 1 1\nend 0\n"
unfolding report_of bytes_of words_saffron signed accepted_run trial_run lt le to_signed printed decimal_up_to
saffron-report = refl

pub saffron-balanced-report : balanced_report_of (bytes_of words_saffron) ≡ ascii "trial 3 2 1 2 8\nstep 1 7 4 0907\nstep 2 6 0 4011\n4011 kept 2 3\n0907 rejected 1 1\nend 1\n"
unfolding balanced_report_of bytes_of words_saffron signed accepted_run trial_balanced_run lt le to_signed printed decimal_up_to
saffron-balanced-report = refl

-- ---- offers that are set aside

pub aside-report : report_of (bytes_of words_aside) ≡ ascii "trial 3 3 1 2 8\nstep 1 4 4 0042\nstep 2 2 0 7\n0042 rejected 1 1\n7 kept 2 3\n04711 aside 0 0\nend 1\n"
unfolding report_of bytes_of words_aside signed accepted_run trial_run lt le to_signed printed decimal_up_to
aside-report = refl

pub aside-balanced-report : balanced_report_of (bytes_of words_aside) ≡ ascii "trial 3 3 1 2 8\nstep 1 7 6 7\nstep 2 7 0 7\n0042 rejected 1 1\n7 kept 2 3\n04711 aside 0 0\nend 1\n"
unfolding balanced_report_of bytes_of words_aside signed accepted_run trial_balanced_run lt le to_signed printed decimal_up_to
aside-balanced-report = refl

pub front-report : report_of (bytes_of words_front) ≡ ascii "trial 3 3 1 2 8\nstep 1 4 4 0042\nstep 2 2 0 7\n04711 aside 0 0\n0042 rejected 1 1\n7 kept 2 3\nend 1\n"
unfolding report_of bytes_of words_front signed accepted_run trial_run lt le to_signed printed decimal_up_to
front-report = refl

pub cancelled-report : (report_of (bytes_of words_cancelled) ≡ ascii "trial 2 2 2 1 4\n0042 kept 0 3\n7 aside 0 0\nend 0\n") × (balanced_report_of (bytes_of words_cancelled) ≡ ascii "trial 2 2 2 1 4\n0042 kept 0 3\n7 aside 0 0\nend 0\n")
unfolding report_of balanced_report_of bytes_of words_cancelled signed accepted_run trial_run trial_balanced_run lt le to_signed printed decimal_up_to
cancelled-report = (refl, refl)

pub zeros-report : (report_of (bytes_of words_zeros) ≡ ascii "trial 1 2 1 0 2\n0042 aside 0 0\n7 aside 0 0\nend 0\n") × (balanced_report_of (bytes_of words_zeros) ≡ ascii "trial 1 2 1 0 2\n0042 aside 0 0\n7 aside 0 0\nend 0\n")
unfolding report_of balanced_report_of bytes_of words_zeros signed accepted_run trial_run trial_balanced_run lt le to_signed printed decimal_up_to
zeros-report = (refl, refl)

-- ---- shops without partners

pub shops-report : report_of (bytes_of words_shops) ≡ ascii "trial 4 2 1 1 6\nstep 1 16 1 7\nstep 2 8 5 7\n0042 rejected 1 1\n7 kept 2 5\nend 1\n"
unfolding report_of bytes_of words_shops signed accepted_run trial_run lt le to_signed printed decimal_up_to
shops-report = refl

pub shops-balanced-report : balanced_report_of (bytes_of words_shops) ≡ ascii "trial 4 2 1 1 6\nstep 1 6 0 0042\n0042 kept 1 1\n7 kept 1 5\nend 0\n"
unfolding balanced_report_of bytes_of words_shops signed accepted_run trial_balanced_run lt le to_signed printed decimal_up_to
shops-balanced-report = refl

pub two-shops-report : report_of (bytes_of words_two_shops) ≡ ascii "trial 2 2 1 1 2\nstep 1 -2 1 0042\n0042 rejected 1 1\n7 aside 0 0\nend 1\n"
unfolding report_of bytes_of words_two_shops signed accepted_run trial_run lt le to_signed printed decimal_up_to
two-shops-report = refl

pub ten-shops-report : report_of (bytes_of words_ten_shops) ≡ ascii "trial 10 1 1 1 10\nstep 1 -1 1 7\n7 rejected 1 1\nend 1\n"
unfolding report_of bytes_of words_ten_shops signed accepted_run trial_run lt le to_signed printed decimal_up_to
ten-shops-report = refl
