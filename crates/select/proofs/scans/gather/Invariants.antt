-- The invariant: what is counted among those that were looked at; and what is gathered, with what is still to come, is the whole.
use Prim.Native.Nat.{◌-◌, ◌^◌}
use lib.Bits.{bit_or, bit_and}
use lib.ListN.{take, drop}
use mathlib.Core.Path.{◌≡◌}
use Rattle.order.specs.Order.{smaller}
use Rattle.order.specs.Counting.{count}
use Rattle.select.specs.Internal.{gathered, any_bits, every_bits}
use Rattle.select.proofs.scans.gather.Given as goal

abbrev pub invariant-loop-x : goal.invariant-loop-x
invariant-loop-x l =
    (l.below ≡ count (λ x. smaller x l.t) (take l.x-index l.xs))
    × (gathered bit_or l.lo l.hi 0 l.any (drop l.x-index l.xs) ≡ any_bits l.lo l.hi l.xs) × (gathered bit_and l.lo l.hi (2 ^ 64 - 1) l.every (drop l.x-index l.xs) ≡ every_bits l.lo l.hi l.xs)
