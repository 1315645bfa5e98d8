-- `whole` meets its contract.
use lib.Dec.{le→leb}
use lib.Ieee.{in_float}
use Rattle.ranking.proofs.column.whole.Goals as goal

pub int_to_float-result : goal.int_to_float-result
unfolding in_float
int_to_float-result c = le→leb _ _ c.requires
