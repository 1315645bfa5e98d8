-- Definitions that only private functions cite: here those of crate host. Definitions only; a reader of the promises needs none of them.
--   small_bytes vs     the number that tells a verdict fits a byte
use Rattle.std.specs.Prelude.{Bool, List, leb}
use Rattle.order.specs.Counting.{all}
use Rattle.runs.specs.declared.Verdict.{Verdict}
use Rattle.verdicts.specs.Verdicts.{verdict_byte}

abbrev pub small_bytes : List Verdict → Bool
small_bytes vs = all (λ v. leb (verdict_byte v) 255) vs
