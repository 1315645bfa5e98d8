-- `places`. The invariant: the places of the first h rows are told.
use Prim.Native.Nat.{◌+◌, ◌*◌}
use lib.ListN.{get_or}
use lib.Ieee.{nan}
use Rattle.order.specs.Places.{place}
use Rattle.order.proofs.Filling.{Told}
use Rattle.ranking.proofs.column.places.Given as goal

abbrev pub invariant-loop-h : goal.invariant-loop-h
invariant-loop-h l = Told (λ i. place (get_or l.table (i * l.columns + l.j) nan)) l.h l.out
