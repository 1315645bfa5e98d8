-- `trialtable::rows::row` meets its contract. The loop's invariant: the buffer has the row's first i entries.
use mathlib.Core.Path.{◌≡◌}
use Rattle.trialtable.specs.Internal.{lowered}
use Rattle.trialtable.proofs.rows.row.Given as goal

abbrev pub invariant-loop-i : goal.invariant-loop-i
invariant-loop-i l = l.out ≡ lowered l.i l.off l.from l.at l.initial.out
