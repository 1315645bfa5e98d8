-- `full_run` meets its contract: all steps, the work buffer cleared, verdicts and counts.
use Rattle.engine.proofs.FullRuns.{counted-can, counted-traced, full_is, work-cleared}
use mathlib.Core.Path.{refl}
use Rattle.engine.proofs.tracing.full_run.Goals as goal

pub all_steps-t-requires : goal.all_steps-t-requires
all_steps-t-requires c = let q = c.requires in (counted-can _ _ _ _ _ _ _ _ c.size_of-size.ensures q.0 q.1 q.2 q.3, q.4, refl)

pub finish-requires : goal.finish-requires
finish-requires c = let q = c.requires in (q.0, q.2, counted-traced _ _ _ _ _ _ _ _ c.size_of-size.ensures _ c.all_steps-t.ensures.0)

pub returns : goal.returns
returns c =
    let q = c.requires in
    record { value = full_is _ _ _ _ _ _ _ _ c.size_of-size.ensures _ _ q.2 c.all_steps-t.ensures.0 c.finish.ensures; work_after = work-cleared c.args.rows c.args.work.now _ _ c.all_steps-t.ensures.1 c.clear.ensures }
