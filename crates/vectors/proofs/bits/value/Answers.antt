-- A value is made only of the bits of a number.
use Rattle.vectors.proofs.Numbers.{at-most-inf}
use Rattle.vectors.proofs.bits.value.Goals as goal

pub float_from_bits-result : goal.float_from_bits-result
float_from_bits-result c = at-most-inf _ c.if-b-gt9218868437227405312.false
