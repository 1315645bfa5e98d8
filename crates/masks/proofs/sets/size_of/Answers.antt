-- `size_of` meets its contract: the columns are the bits that are 1.
use Rattle.masks.proofs.SetSizes.{size-wide, size-part}
use native.Mathlib.Omega.{arith}
use Rattle.masks.proofs.sets.size_of.Goals as goal

pub returns-then-cols-gt32 : goal.returns-then-cols-gt32
returns-then-cols-gt32 c = size-wide c.args.cols c.args.set (omega (arith, c.if-cols-gt32.true)) c.ranges.set.fits

pub returns : goal.returns
returns c = size-part c.args.cols c.args.set _ c.if-cols-gt32.false c.full_mask.ensures
