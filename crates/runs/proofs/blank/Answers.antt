-- `blank` meets its contract.
use lib.Ieee.{of_bits}
use borrow.Author.Rules.{rules}
use Rattle.runs.proofs.blank.Goals as goal

pub returns : goal.returns
unfolding of_bits
returns c = search rules
