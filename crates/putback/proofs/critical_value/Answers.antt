-- `critical_value` meets its contract: of one set.
use Rattle.putback.proofs.Beginning.{alone_at}
use Rattle.putback.proofs.BarOf.{one-some, one-bar}
use Rattle.putback.proofs.critical_value.Goals as goal

pub alone-requires : goal.alone-requires
alone-requires c = let q = c.requires in (q.0, q.3, q.1, q.2, c.if-table-eq1.true)

pub of_branch-requires : goal.of_branch-requires
of_branch-requires c = let q = c.requires in (q.0, q.1, alone_at c.args.table.checked.k-some q.2 q.3, q.4, q.5, one-some _ _)

pub returns : goal.returns
returns c = let w = c.of_branch.ensures in (one-bar _ c.args.table.checked _ w.0, w.1)
