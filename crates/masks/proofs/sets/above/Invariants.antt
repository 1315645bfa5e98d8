-- `above` meets its contract. The invariant: what is marked and what is still to be marked make the whole.
use Rattle.columns.specs.Columns.{columns_of, mask_of, over, ◌∩◌}
use Rattle.masks.proofs.MaskScan.{above_from}
use lib.ListN.{length}
use Prim.Native.Nat.{◌≤◌, ◌<◌, ◌+◌, ◌*◌, ◌^◌}
use mathlib.Core.Path.{◌≡◌}
use Rattle.masks.proofs.sets.above.Given as goal

abbrev pub invariant-loop-i : goal.invariant-loop-i
invariant-loop-i l = (l.i ≤ length l.row) × (length l.row ≤ 32) × (l.m < 2 ^ l.i) × (l.m + 2 ^ l.i * above_from l.row l.i l.s l.v ≡ mask_of (columns_of (length l.row) l.set ∩ over l.v l.row))
