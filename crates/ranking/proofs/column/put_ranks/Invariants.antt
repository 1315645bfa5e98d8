-- `put_ranks`. The invariant: the rows from place i of the order on have their ranks.
use Rattle.ranking.proofs.Walking.{Wander}
use Rattle.ranking.proofs.column.put_ranks.Given as goal

abbrev pub invariant-loop-i : goal.invariant-loop-i
invariant-loop-i l = Wander l.columns l.j l.places l.order l.initial.table l.i l.above l.rank l.table
