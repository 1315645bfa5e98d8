-- `cleared` meets its contract.
use native.Mathlib.Omega.{arith}
use lib.Pow.{pow_pos}
use Rattle.select.proofs.Steps.{rest-fits, cleared-is}
use Rattle.select.proofs.smallest.cleared.Goals as goal

pub nonzero_rem-result : goal.nonzero_rem-result
nonzero_rem-result c = omega (arith, c.bit.ensures, pow_pos c.args.free)

pub overflow_sub-result : goal.overflow_sub-result
overflow_sub-result c = rest-fits _ _ _ c.bit.ensures

pub returns : goal.returns
returns c = cleared-is _ _ _ c.bit.ensures
