-- `trialtable::rows::row_by_row` meets its contract. The loop's invariant: the buffer has the first h rows of the block.
use mathlib.Core.Path.{◌≡◌}
use Rattle.trialtable.specs.Internal.{blocked}
use Rattle.trialtable.proofs.rows.row_by_row.Given as goal

abbrev pub invariant-loop-h : goal.invariant-loop-h
invariant-loop-h l = l.out ≡ blocked l.h l.rows l.offers l.off l.at l.initial.out
