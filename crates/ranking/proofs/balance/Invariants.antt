-- `balance`. The invariant: the first j columns are ranked.
use Rattle.ranking.proofs.Ranked.{Ranked}
use Rattle.ranking.proofs.balance.Given as goal

abbrev pub invariant-loop-j : goal.invariant-loop-j
invariant-loop-j l = Ranked l.rows l.columns l.initial.table l.j l.table
