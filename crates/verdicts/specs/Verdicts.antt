-- What is read off the verdicts of a full run. Definitions only.
--   verdict_byte v         what tells a verdict in a byte: the step that rejected, 0 where the column is kept, 255 where it is set aside
--   rejected_count n vs    how many of the first n verdicts are rejected
use Rattle.std.specs.Prelude.{ℕ, List, take}
use Rattle.std.specs.List.{count_by}
use Rattle.runs.specs.FullRuns.{is_rejected}
use Rattle.runs.specs.declared.Verdict.{Verdict}
use Rattle.runs.specs.declared.Verdict.TheVariants.{Rejected, Kept, Aside}

abbrev pub verdict_byte : Verdict → ℕ
verdict_byte (Rejected s c) = s
verdict_byte (Kept c) = 0
verdict_byte Aside = 255

unfoldable pub rejected_count : ℕ → List Verdict → ℕ
rejected_count n vs = count_by is_rejected (take n vs)
