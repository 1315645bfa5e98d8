-- `offer`: the printed code takes as many places as it has digits.
use Rattle.std.proofs.Common.{arith, rules}
use lib.ListN.{length-append}
use Rattle.text.proofs.Numbers.{length_printed}
use Rattle.sheet.proofs.offer.Goals as goal

pub push_code-requires : goal.push_code-requires
push_code-requires c = (search rules, omega (arith, simp (length-append, length_printed) at c.requires.room))
