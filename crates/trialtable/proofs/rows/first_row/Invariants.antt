-- `trialtable::rows::first_row` meets its contract. The loop's invariant: the buffer holds the table's first i places, and from there on what it held.
use mathlib.Core.Path.{◌≡◌}
use Rattle.trialtable.specs.Internal.{table_for, begun}
use Rattle.trialtable.proofs.rows.first_row.Given as goal

abbrev pub invariant-loop-i : goal.invariant-loop-i
invariant-loop-i g l = l.out ≡ begun l.i (table_for (g.K.Kind.design l.kind) l.offers l.figures) l.initial.out
