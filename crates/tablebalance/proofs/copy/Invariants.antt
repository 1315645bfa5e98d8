-- `copy`. The invariant: the first i places hold the first i values.
use mathlib.Core.Path.{◌≡◌}
use lib.Ieee.{Float}
use Rattle.refusals.proofs.Buffers.{filled}
use Rattle.tablebalance.proofs.copy.Given as goal

abbrev pub invariant-loop-i : goal.invariant-loop-i
invariant-loop-i l = l.out ≡ filled (λ (x : Float). x) l.table l.i l.initial.out
