-- `tally` meets its contract. The invariant is `Tallied` (proofs/Tally.antt).
use Rattle.critical.proofs.Tally.{Tallied}
use Rattle.critical.proofs.counts.tally.Given as goal

abbrev pub invariant-loop-j : goal.invariant-loop-j
invariant-loop-j l = Tallied l.row l.observed l.initial.counts l.counts l.j
