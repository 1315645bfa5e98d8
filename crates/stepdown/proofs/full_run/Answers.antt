-- `full_run` meets its contract: its checks, and the engine's full run at e over all columns.
use native.Mathlib.Omega.{arith}
use Rattle.stepdown.proofs.Accepted.{table-accepted, accepted-checked, table-room, table-level}
use Rattle.stepdown.proofs.Calls.{full-passed, full_is, full-on, full-work-cleared, made-rare, made-full}
use Rattle.stepdown.proofs.full_run.Goals as goal

pub allowance-e-requires : goal.allowance-e-requires
allowance-e-requires c = let z = full-passed _ _ _ _ _ _ _ c.args.work.now c.in_ok-check_table_run.ensures in ((table-accepted _ _ _ _ _ _ _ _ z).shaped.rows-most, table-level _ _ _ _ _ _ _ _ z)

pub full_mask-live-requires : goal.full_mask-live-requires
full_mask-live-requires c = omega (arith, (table-accepted _ _ _ _ _ _ _ _ (full-passed _ _ _ _ _ _ _ c.args.work.now c.in_ok-check_table_run.ensures)).shaped.columns-most)

pub full_run-requires : goal.full_run-requires
full_run-requires c =
    let z = full-passed _ _ _ _ _ _ _ c.args.work.now c.in_ok-check_table_run.ensures in
    let acc = table-accepted _ _ _ _ _ _ _ _ z in
    (accepted-checked _ _ _ _ _ _ _ acc, made-rare _ _ _ _ _ _ _ acc _ c.allowance-e.ensures, acc.seen, made-full _ _ c.full_mask-live.ensures, table-room _ _ _ _ _ _ _ _ z)

pub returns : goal.returns
returns c =
    let e = c.in_ok-check_table_run.ensures in
    let w = c.args.work.now in
    record { value = full-on _ _ _ _ _ _ _ w e _ (full_is _ _ _ _ _ _ _ _ _ _ c.allowance-e.ensures c.full_mask-live.ensures c.full_run.ensures.value); work_after = full-work-cleared _ _ _ _ _ _ _ w e _ c.full_run.ensures.work_after }
