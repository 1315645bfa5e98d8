-- `difference_of`: a signed 28-bit field.
use Prim.Native.Nat.{◌%◌}
use native.Mathlib.Omega.{arith}
use Rattle.words.proofs.Signed.{sub-fits, field-low, field-high}
use Rattle.words.proofs.difference_of.Goals as goal

pub overflow_sub-result : goal.overflow_sub-result
overflow_sub-result c = sub-fits (c.args.w % 268435456) (omega (arith, c.if-v.false)) (omega arith)

pub returns-then-v : goal.returns-then-v
returns-then-v c = field-low (c.args.w % 268435456) (omega (arith, c.if-v.true))

pub returns-else-v : goal.returns-else-v
returns-else-v c = field-high (c.args.w % 268435456) (omega (arith, c.if-v.false)) (omega arith)
