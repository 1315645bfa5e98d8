-- `kth` meets its contract. The invariant: what is held, once the values still to come are seen, is what all values leave.
use Rattle.order.specs.Counting.{all}
use Rattle.critical.specs.Internal.{top_from}
use lib.Ieee.{nan, inf}
use lib.Dec.{T, ltb}
use lib.ListN.{length, get_or, drop, replicate}
use mathlib.Core.Bool.{true}
use mathlib.Core.List.{map}
use mathlib.Core.Path.{◌≡◌}
use Rattle.critical.proofs.kmax.kth.Given as goal

abbrev pub invariant-loop-j : goal.invariant-loop-j
invariant-loop-j g l = T (all (λ j. ltb j (length l.row)) l.list) × (top_from l.largest (map (λ j. get_or l.row j nan) (drop l.j-index l.list)) ≡ top_from (replicate g.row.K (inf true)) (map (λ j. get_or l.row j nan) l.list))
