-- `trialtable::kinds::sum` meets its contract. The loop's invariant: the sum of the figures so far, and how large it can be.
use mathlib.Core.Path.{◌≡◌}
use Prim.Native.Nat.{◌≤◌, ◌*◌}
use lib.ListN.{take}
use lib.IntN.{nat_abs}
use Rattle.trial.specs.Choices.{sum_of}
use Rattle.trialtable.proofs.kinds.sum.Given as goal

abbrev pub invariant-loop-x : goal.invariant-loop-x
invariant-loop-x l = (l.sum ≡ sum_of (take l.x-index l.figures)) × (nat_abs l.sum ≤ l.x-index * 2147483648)
