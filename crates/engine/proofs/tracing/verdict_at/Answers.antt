-- `verdict_at` meets its contract.
use Rattle.engine.proofs.Traces.{told-live, told-aside}
use Rattle.engine.proofs.tracing.verdict_at.Goals as goal

pub returns-then-live-j-eq1 : goal.returns-then-live-j-eq1
returns-then-live-j-eq1 c = told-live _ _ _ _ _ c.if-live-j-eq1.true c.verdict.ensures

pub returns : goal.returns
returns c = told-aside _ _ _ _ c.if-live-j-eq1.false
