-- `finish` meets its contract. The invariant: the first j columns have their verdicts and counts.
use Rattle.engine.proofs.FullRuns.{verdicts_to, counts_to}
use mathlib.Core.Path.{◌≡◌}
use Rattle.engine.proofs.tracing.finish.Given as goal

abbrev pub invariant-loop-j : goal.invariant-loop-j
invariant-loop-j l = (l.verdicts ≡ verdicts_to l.t l.live l.j) × (l.counts ≡ counts_to l.table l.rows l.columns l.observed l.live l.j)
