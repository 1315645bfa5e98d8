-- `one_fewer` meets its contract.
use Rattle.masks.proofs.SetSizes.{fewer-none, fewer-one}
use Rattle.masks.proofs.rows.one_fewer.Goals as goal

pub returns-then-k-t : goal.returns-then-k-t
returns-then-k-t c = let a = c.args in fewer-none a.x a.k a.t c.if-k-t.true

pub returns : goal.returns
returns c = let a = c.args in fewer-one a.x _ a.k a.t c.if-k-t.false c.without_lowest.ensures
