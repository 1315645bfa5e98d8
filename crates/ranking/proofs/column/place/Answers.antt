-- `place` meets its contract: a finite value is a number.
use mathlib.Core.Path.{◌∙◌, ap}
use lib.Ieee.{binary64, to_bits}
use Rattle.order.specs.Places.{bits_place, place}
use Rattle.ranking.proofs.Ranked.{finite_number}
use Rattle.ranking.proofs.column.place.Goals as goal

pub float_to_bits-plus_zero : goal.float_to_bits-plus_zero
float_to_bits-plus_zero c = finite_number _ c.requires c.plus_zero.ensures

pub returns : goal.returns
unfolding place
returns c = c.bits_place.ensures ∙ ap (λ x. bits_place (to_bits binary64 x)) c.plus_zero.ensures
