-- `value_at` meets its contract: its tests are those of `value_at`.
use lib.Ieee.{of_bits, to_bits}
use Rattle.order.specs.Order.{with_plus_zero}
use Rattle.order.specs.Places.{place, bits_place}
use Rattle.order.proofs.ValueAt.{value_at-high, value_at-low, value_at-number, value_at-within}
use Rattle.order.proofs.bits.value_at.Goals as goal

pub returns-then-p-ge18442240474082181120 : goal.returns-then-p-ge18442240474082181120
unfolding of_bits place bits_place to_bits with_plus_zero
returns-then-p-ge18442240474082181120 c = value_at-high _ c.if-p-ge18442240474082181120.true

pub returns-then-p-le4503599627370495 : goal.returns-then-p-le4503599627370495
unfolding of_bits place bits_place to_bits with_plus_zero
returns-then-p-le4503599627370495 c = value_at-low _ c.if-p-ge18442240474082181120.false c.if-p-le4503599627370495.true

pub float_from_bits-result : goal.float_from_bits-result
unfolding place bits_place to_bits with_plus_zero
float_from_bits-result c = value_at-number _ c.if-p-ge18442240474082181120.false c.if-p-le4503599627370495.false _ c.bits_at.ensures

pub returns-else-p-le4503599627370495 : goal.returns-else-p-le4503599627370495
unfolding place bits_place to_bits with_plus_zero
returns-else-p-le4503599627370495 c = value_at-within _ c.if-p-ge18442240474082181120.false c.if-p-le4503599627370495.false _ c.bits_at.ensures
