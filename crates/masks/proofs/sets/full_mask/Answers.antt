-- `full_mask` meets its contract.
use Rattle.masks.proofs.MaskScan.{full-32}
use lib.Pow.{pow_pos}
use native.Mathlib.Omega.{arith}
use Prim.Native.Nat.{◌-◌}
use mathlib.Core.Path.{ap}
use Rattle.masks.proofs.sets.full_mask.Goals as goal

pub returns-then-cols-eq32 : goal.returns-then-cols-eq32
returns-then-cols-eq32 c = full-32 _ c.if-cols-eq32.true

pub overflow_sub-result : goal.overflow_sub-result
overflow_sub-result c = omega (arith, c.bit.ensures, pow_pos c.args.cols)

pub returns : goal.returns
returns c = ap (λ n. n - 1) c.bit.ensures
