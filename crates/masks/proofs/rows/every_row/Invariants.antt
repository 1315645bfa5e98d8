-- `every_row` meets its contract. The invariant: the first g places are filled.
use Rattle.order.specs.Lists.{tabulate}
use lib.ListN.{length, take}
use Prim.Native.Nat.{◌≤◌}
use mathlib.Core.Path.{◌≡◌}
use Rattle.masks.proofs.rows.every_row.Given as goal

abbrev pub invariant-loop-g : goal.invariant-loop-g
invariant-loop-g l = (l.g ≤ l.rows) × (l.rows ≤ 4096) × (l.rows ≤ length l.initial.kept) × (length l.kept ≡ length l.initial.kept) × (take l.g l.kept ≡ tabulate l.g (λ i. i))
