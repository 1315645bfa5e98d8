-- `row_mask` meets its contract. The invariant: what is marked and what is still to be marked make the whole.
use Rattle.order.specs.Lists.{tabulate}
use Rattle.masks.specs.Marks.{passing, mark_of}
use lib.ListN.{length, drop}
use Prim.Native.Nat.{◌≤◌, ◌<◌, ◌+◌, ◌*◌, ◌^◌}
use mathlib.Core.Path.{◌≡◌}
use Rattle.masks.proofs.rows.row_mask.Given as goal

abbrev pub invariant-loop-i : goal.invariant-loop-i
invariant-loop-i l = (l.i ≤ length l.row) × (length l.row ≤ 32) × (l.bits ≡ tabulate 32 (λ j. 2 ^ j)) × (l.m < 2 ^ l.i) × (l.m + 2 ^ l.i * mark_of (passing l.bound) (drop l.i l.row) ≡ mark_of (passing l.bound) l.row)
