-- `lowest_equal` meets its contract. The invariant: the column that is looked for is the one from `i` on.
use Rattle.columns.specs.Columns.{columns_of, equal_to, lowest, ◌∩◌}
use Rattle.masks.proofs.MaskScan.{lowest_from}
use lib.ListN.{length}
use Prim.Native.Nat.{◌≤◌}
use mathlib.Core.Path.{◌≡◌}
use Rattle.masks.proofs.sets.lowest_equal.Given as goal

abbrev pub invariant-loop-i : goal.invariant-loop-i
invariant-loop-i l = (l.i ≤ length l.row) × (lowest_from l.row l.i l.s l.v ≡ lowest (columns_of (length l.row) l.set ∩ equal_to l.v l.row))
