-- `first_set` meets its contract: it ends, since what is left of the rejected columns falls.
use Rattle.putback.specs.Internal.{At}
use Prim.Native.Nat.{◌≤◌}
use Rattle.putback.proofs.start.first_set.Given as goal

abbrev pub invariant-loop-at : goal.invariant-loop-at
invariant-loop-at l = At l.columns l.k l.at × (l.columns ≤ 32)

abbrev pub decreases-loop-at : goal.decreases-loop-at
decreases-loop-at l = l.at.rest
