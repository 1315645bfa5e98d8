-- Laws of a report's step lines, for a loop over the records of the run's steps.
--   step-there       the place is one of a step
--   step_line-is     the line of the record there is the step's
use Prim.Native.Nat.{ℕ, ◌-◌, ◌<◌}
use native.Mathlib.Omega.{arith}
use mathlib.Core.Path.{◌≡◌, ap}
use lib.ListN.{length, get_or, take}
use lib.Ieee.{nan}
use lib.Seq.{get_or-take}
use Rattle.std.proofs.lemmas.List.{length-take}
use Rattle.runs.specs.declared.Record.{Record}
use Rattle.runs.specs.declared.FullRun.{FullRun}
use Rattle.trial.specs.declared.Labels.{Labels}
use Rattle.rendering.specs.Reports.{code_at, step_line, step_line_at}

module _ (l : Labels) (r : FullRun) (i : ℕ) (h : i < length (take r.steps r.records)) where
  pub step-there : i < r.steps
  step-there = omega (arith, length-take r.steps r.records)

  pub step_line-is : let m = get_or (take r.steps r.records) i (record { step = 0; critical = nan; row = 0; offer = 0 }) in step_line m (code_at l (m.offer - 1)) ≡ step_line_at l r i
  step_line-is = ap (λ (m : Record). step_line m (code_at l (m.offer - 1))) (get_or-take r.steps r.records i (record { step = 0; critical = nan; row = 0; offer = 0 }) step-there)
