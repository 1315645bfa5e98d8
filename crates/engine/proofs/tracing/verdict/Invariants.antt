-- `verdict` meets its contract. The invariant: the verdict is what the steps from i on give.
use Rattle.engine.specs.Internal.{Traced, verdict_in}
use Rattle.engine.proofs.Traces.{look_from}
use Prim.Native.Nat.{◌≤◌, ◌<◌}
use mathlib.Core.Path.{◌≡◌}
use Rattle.engine.proofs.tracing.verdict.Given as goal

abbrev pub invariant-loop-i : goal.invariant-loop-i
invariant-loop-i l = (l.i ≤ l.n) × (l.n ≡ l.t.steps) × Traced l.t × (l.j < 32) × (verdict_in l.t l.j ≡ look_from l.t l.i l.last l.j)
