-- `value_past` meets its contract: above all places stands infinity.
use native.Mathlib.Omega.{arith}
use lib.Ieee.{of_bits, to_bits}
use Rattle.order.specs.Order.{with_plus_zero}
use Rattle.order.specs.Places.{place, bits_place}
use Rattle.order.proofs.ValueAt.{value_at-high}
use Rattle.select.proofs.smallest.value_past.Goals as goal

pub returns-in-None : goal.returns-in-None
unfolding of_bits place bits_place to_bits with_plus_zero
returns-in-None c = value_at-high _ (omega (arith, c.in-None.ensures, c.bit.ensures))
