-- A report takes no notice of what comes after one byte more than the longest file.
--   cut_off, balanced-cut-off     the report of the first `input_room` bytes is the report of them all
use Prim.Native.Nat.{ℕ}
use mathlib.Core.Path.{◌≡◌}
use mathlib.Core.List.{List}
use lib.ListN.{take}
use Rattle.limits.specs.Limits.{input_room}
use Rattle.runs.specs.Stepdown.{Outcome}
use Rattle.runs.specs.FullRuns.{accepted_run}
use Rattle.trial.specs.declared.Trial.{Trial}
use Rattle.trialfile.specs.Files.{trial_of}
use Rattle.trialfile.proofs.Inputs.{file-cut}
use Rattle.trialrun.specs.TrialRuns.{trial_run}
use Rattle.trialbalance.specs.TrialBalance.{trial_balanced_run}
use Rattle.text.specs.Text.{refused_text}
use Rattle.rendering.specs.Reports.{trial_text, report_by, report_of, balanced_report_of}

cut_by : (run : Trial → Outcome) (bytes : List ℕ) → report_by run (take input_room bytes) ≡ report_by run bytes
unfolding report_by
cut_by run = file-cut (λ ws. trial_text (trial_of ws) (accepted_run (run (trial_of ws)))) refused_text

pub cut_off : (bytes : List ℕ) → report_of (take input_room bytes) ≡ report_of bytes
unfolding report_of
cut_off = cut_by trial_run

pub balanced-cut-off : (bytes : List ℕ) → balanced_report_of (take input_room bytes) ≡ balanced_report_of bytes
unfolding balanced_report_of
balanced-cut-off = cut_by trial_balanced_run
