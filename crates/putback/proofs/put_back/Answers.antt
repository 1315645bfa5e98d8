-- `put_back` meets its contract: of all choices; with k = 1 there is one set.
use Rattle.putback.proofs.Beginning.{start-at}
use Rattle.putback.proofs.BarOf.{left-bar, put_some, put-bar}
use native.Mathlib.Omega.{arith}
use Rattle.putback.proofs.put_back.Goals as goal

pub alone-requires : goal.alone-requires
alone-requires c = let q = c.requires in (q.0, omega (arith, q.3, c.if-table-eq1.true), q.1, q.2.inside, c.if-table-eq1.true)

pub returns-then-table-eq1 : goal.returns-then-table-eq1
returns-then-table-eq1 c = let v = c.alone.ensures in (left-bar _ c.args.table.checked _ _ c.if-table-eq1.true v.0, v.1)

pub of_branch-requires : goal.of_branch-requires
of_branch-requires c = let q = c.requires in (q.0, q.1, start-at c.args.table.checked.k-some q.2 q.3, q.5, q.6, put_some _ _ _ _ q.4)

pub returns : goal.returns
returns c = let w = c.of_branch.ensures in (put-bar _ c.args.table.checked _ _ c.requires.4 w.0, w.1)
