-- `all_steps` meets its contract. The invariant is `Followed`: the trace has the first i steps, and the others are those from here on.
use Rattle.engine.proofs.AllSteps.{Followed}
use lib.ListN.{length, drop}
use Prim.Native.Nat.{◌≤◌}
use mathlib.Core.Path.{◌≡◌}
use Rattle.engine.proofs.tracing.all_steps.Given as goal

abbrev pub invariant-loop-i : goal.invariant-loop-i
invariant-loop-i l = Followed l.table l.initial.state l.t l.state l.i × (l.initial.state.rows ≤ length l.work) × (length l.work ≡ length l.initial.work) × (drop l.initial.state.rows l.work ≡ drop l.initial.state.rows l.initial.work)
