-- `without_lowest` meets its contract.
use Rattle.masks.proofs.SetSizes.{lowest-empty, lowest-out}
use Rattle.masks.proofs.rows.without_lowest.Goals as goal

pub returns-then-x-eq0 : goal.returns-then-x-eq0
returns-then-x-eq0 c = lowest-empty c.args.x c.if-x-eq0.true

pub returns : goal.returns
returns c = lowest-out c.args.x c.ranges.x.fits c.if-x-eq0.false
