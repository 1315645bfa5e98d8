-- `put_together`: each field is given its part.
use Rattle.benchcalls.proofs.Layouts.{laid-out-as}
use Rattle.benchcalls.proofs.put_together.Goals as goal

pub returns : goal.returns
returns c = let a = c.args in laid-out-as a.numbers.now _ _ _ _ c.design_of.ensures
