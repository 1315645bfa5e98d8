-- `balance`. The invariant: the first j columns are ranked.
use native.Mathlib.Omega.{arith}
use mathlib.Core.Path.{◌∙◌}
use Rattle.ranking.proofs.Ranked.{sized, ranked-finite, ranked-turn, ranked-end}
use Rattle.ranking.proofs.balance.Goals as goal

pub places-requires : goal.places-requires
places-requires c =
    let r = c.requires.0 in
    let a = c.loop-j.auto in
    let n = a.places ∙ c.requires.1.first in
    (sized _ _ a.table r.full n, c.loop-j-test.true, r.columns-most, omega (arith, n, r.rows-most), ranked-finite _ _ _ r c.loop-j.invariant)

pub loop-j-preserved : goal.loop-j-preserved
loop-j-preserved c =
    let q = c.put_ranks in
    ranked-turn _ _ _ c.requires.0 c.loop-j.invariant _ c.loop-j-test.true (c.loop-j.auto.places ∙ c.requires.1.first) c.places.ensures q.ensures q.auto.table

pub returns : goal.returns
returns c = ranked-end _ _ _ c.requires.0 c.loop-j.invariant c.loop-j-test.false c.requires.0.columns-some
