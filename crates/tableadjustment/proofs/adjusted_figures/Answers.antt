-- `adjusted_figures` meets its contract: its checks, and the figures over all columns.
use native.Mathlib.Omega.{arith}
use Rattle.adjustment.proofs.Accepted.{call-accepted, call-room}
use Rattle.tableadjustment.proofs.FigureCalls.{passed, passable, figures-on, figures-cleared}
use Rattle.tableadjustment.proofs.adjusted_figures.Goals as goal

pub clear-requires : goal.clear-requires
clear-requires c = call-room _ _ _ _ _ _ (passed _ _ _ _ _ c.args.work.now c.in_ok-check.ensures)

pub full_mask-live-requires : goal.full_mask-live-requires
full_mask-live-requires c = omega (arith, (call-accepted _ _ _ _ _ _ (passed _ _ _ _ _ c.args.work.now c.in_ok-check.ensures)).shaped.columns-most)

pub all_figures-figures-requires : goal.all_figures-figures-requires
all_figures-figures-requires c = passable _ _ _ _ _ c.args.work.now c.in_ok-check.ensures _ c.full_mask-live.ensures

pub returns : goal.returns
returns c =
    let e = c.in_ok-check.ensures in
    let w = c.args.work.now in
    record { value = figures-on _ _ _ _ _ w e _ _ c.full_mask-live.ensures c.all_figures-figures.ensures; work_after = figures-cleared _ _ _ _ _ w e _ c.clear.ensures }
