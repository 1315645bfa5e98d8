-- `design_of`: by the kind.
use Rattle.benchcalls.proofs.Layouts.{of-pairs, of-shops}
use Rattle.benchcalls.proofs.design_of.Goals as goal

pub returns-then-kind-eq2 : goal.returns-then-kind-eq2
returns-then-kind-eq2 c = of-pairs _ _ _ c.if-kind-eq2.true

pub returns : goal.returns
returns c = of-shops _ _ _ c.if-kind-eq2.false
