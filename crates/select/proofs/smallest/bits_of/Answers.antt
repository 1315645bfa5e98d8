-- `bits_of` meets its contract.
use Rattle.select.proofs.Steps.{bits-reach}
use native.Mathlib.Omega.{arith}
use Rattle.select.proofs.smallest.bits_of.Goals as goal

pub returns : goal.returns
returns c = (omega arith, (bits-reach c.args.d (omega arith)).1)
