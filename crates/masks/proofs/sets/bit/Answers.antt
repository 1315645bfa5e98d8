-- `bit` meets its contract.
use Rattle.order.proofs.Powers.{bit_is}
use Rattle.masks.proofs.sets.bit.Goals as goal

pub returns : goal.returns
returns c = bit_is 32 _ c.requires
