-- `with_next` meets its contract.
use Rattle.putback.proofs.branch.with_next.Goals as goal

pub returns : goal.returns
returns c = simp c.bit.ensures
