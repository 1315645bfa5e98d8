-- `push` meets its contract. The invariant: the places before the next have their values, and the others are still to be pushed.
use Rattle.critical.specs.Internal.{pushed}
use lib.ListN.{take, drop}
use mathlib.Core.List.{◌++◌}
use mathlib.Core.Path.{◌≡◌}
use Rattle.critical.proofs.kmax.push.Given as goal

abbrev pub invariant-loop-value : goal.invariant-loop-value
invariant-loop-value l = take l.value-index l.largest ++ pushed (drop l.value-index l.largest) l.given_up ≡ pushed l.initial.largest l.initial.given_up
