-- `bits` meets its contract. The invariant: the first j bits are there.
use Rattle.order.specs.Lists.{tabulate}
use lib.ListN.{length, take}
use Prim.Native.Nat.{◌^◌}
use mathlib.Core.Path.{◌≡◌}
use Rattle.masks.proofs.rows.bits.Given as goal

abbrev pub invariant-loop-j : goal.invariant-loop-j
invariant-loop-j l = (length l.bits ≡ 32) × (take l.j l.bits ≡ tabulate l.j (λ i. 2 ^ i))
