-- `at_least` meets its contract. The invariant is `Surveyed` (proofs/Tally.antt).
use Rattle.critical.proofs.Tally.{Surveyed}
use Rattle.critical.proofs.counts.at_least.Given as goal

abbrev pub invariant-loop-g : goal.invariant-loop-g
invariant-loop-g l = Surveyed l.table.values.now l.table.rows l.table.columns l.observed l.table.k l.counts l.g
