-- A full run as a caller gets it: arrays of 32 places, and what the paper says of each case of a verdict. Definitions only.
--   no_record          a blank record
--   accepted_run o     what a full run with the outcome o answers
--   blank_run          a run of which nothing is told
--   told_run answer    what an answer tells: 0 and the run, or the number of the refusal and a blank run
--   verdicts_in n f    the verdicts of n columns that a full run holds
--   is_rejected v      the verdict is rejected
--   is_aside v         the column is set aside
--   critical_in v      the critical value: that of the rejecting step, or the last one; plus zero where there is none
use Rattle.std.specs.Prelude.{ℕ, Bool, true, false, List, length, replicate, take, Result, Ok, Err, Float}
use Rattle.order.specs.Order.{plus_zero}
use Rattle.order.specs.Lists.{padded}
use Rattle.refusals.specs.Answers.{number}
use Rattle.refusals.specs.declared.refusal.Refusal.{Refusal}
use Rattle.runs.specs.Stepdown.{Outcome}
use Rattle.runs.specs.declared.Record.{Record}
use Rattle.runs.specs.declared.Verdict.{Verdict}
use Rattle.runs.specs.declared.FullRun.{FullRun}
use Rattle.runs.specs.declared.Verdict.TheVariants.{Rejected, Kept, Aside}

abbrev pub no_record : Record
no_record = record { step = 0; critical = plus_zero; row = 0; offer = 0 }

unfoldable pub accepted_run : Outcome → FullRun
accepted_run o =
    record {
      rows = o.rows;
      e = o.e;
      steps = length o.records;
      records = padded 32 no_record o.records;
      verdicts = padded 32 (Kept plus_zero) o.verdicts;
      counts = padded 32 0 o.counts;
    }

abbrev pub blank_run : FullRun
blank_run = record { rows = 0; e = 0; steps = 0; records = replicate 32 no_record; verdicts = replicate 32 (Kept plus_zero); counts = replicate 32 0 }

abbrev pub told_run : Result FullRun Refusal → ℕ × FullRun
told_run (Ok f) = (0, f)
told_run (Err r) = (number r, blank_run)

abbrev pub verdicts_in : ℕ → FullRun → List Verdict
verdicts_in n f = take n f.verdicts

-- ---- a verdict, case by case

abbrev pub is_rejected : Verdict → Bool
is_rejected (Rejected s c) = true
is_rejected (Kept c) = false
is_rejected Aside = false

abbrev pub is_aside : Verdict → Bool
is_aside (Rejected s c) = false
is_aside (Kept c) = false
is_aside Aside = true

abbrev pub critical_in : Verdict → Float
critical_in (Rejected s c) = c
critical_in (Kept c) = c
critical_in Aside = plus_zero
