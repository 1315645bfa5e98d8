-- `places`. The invariant: the places of the first h rows are told.
use native.Mathlib.Omega.{arith}
use lib.Ieee.{nan}
use Rattle.order.specs.Order.{finite}
use Rattle.order.proofs.Counts.{all_get_d}
use Rattle.order.proofs.Filling.{told-end}
use Rattle.ranking.specs.Internal.{places_in}
use Rattle.ranking.proofs.Ranked.{inside}
use Rattle.ranking.proofs.column.places.Goals as goal

pub place-requires : goal.place-requires
place-requires c = let p = c.requires in all_get_d finite _ _ nan (inside _ _ _ c.loop-h.h _ p.0 c.loop-h-test.true p.1) p.4

pub returns : goal.returns
unfolding places_in
returns c = told-end _ c.loop-h.invariant _ c.loop-h.auto.out (omega (arith, c.loop-h-test.false))
