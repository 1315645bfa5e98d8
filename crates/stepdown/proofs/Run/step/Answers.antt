-- `Run::step` meets its contract: its checks, one step of the engine, and the work buffer cleared.
use Rattle.stepdown.proofs.Calls.{step-figures, step-ready, step_room, step-passed, step-on, work-cleared}
use native.Mathlib.Omega.{arith}
use Rattle.stepdown.proofs.Run.step.Goals as goal

pub state_of-requires : goal.state_of-requires
state_of-requires c = step-figures _ _ _ (step-passed _ _ c.args.work.now c.in_ok-check_step.ensures)

pub step-s-requires : goal.step-s-requires
step-s-requires c = step-ready _ _ _ (step-passed _ _ c.args.work.now c.in_ok-check_step.ensures) _ c.state_of.ensures

pub clear-requires : goal.clear-requires
clear-requires c = omega (arith, step_room _ _ _ (step-passed _ _ c.args.work.now c.in_ok-check_step.ensures), c.step-s.auto.work)

pub returns : goal.returns
returns c =
    let e = c.in_ok-check_step.ensures in
    let w = c.args.work.now in
    let y = c.state_of.ensures in
    record { value = step-on _ _ w e _ y _ c.step-s.ensures.0 _ c.resume.ensures; work_after = work-cleared _ _ w e _ y _ _ c.step-s.ensures.1 c.clear.ensures }
