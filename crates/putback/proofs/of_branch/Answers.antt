-- `of_branch` meets its contract: the walk's set is the first that gives the value.
use Rattle.putback.proofs.BarOf.{branch-ready, branch-bar}
use Rattle.putback.proofs.of_branch.Goals as goal

pub lowest_row-row-requires : goal.lowest_row-row-requires
lowest_row-row-requires c =
    let q = c.requires in
    branch-ready _ c.args.table.checked _ q.2 q.5 _ c.largest-h.ensures.0

pub returns : goal.returns
returns c = let q = c.requires in let l = c.largest-h.ensures in (branch-bar _ c.args.table.checked _ q.2 q.5 _ l.0 _ c.lowest_row-row.ensures, l.1)
