-- `at_least` meets its contract. The invariant is `Surveyed` (proofs/Tally.antt).
use Rattle.critical.proofs.Tally.{surveyed-start, surveyed-row, surveyed-turn, surveyed-end}
use Rattle.critical.proofs.counts.at_least.Goals as goal

pub loop-g-init : goal.loop-g-init
loop-g-init c = surveyed-start _ _ _ _ _ c.args.table.checked c.requires

pub tally-requires : goal.tally-requires
tally-requires c = surveyed-row c.loop-g.invariant c.loop-g-test.true _ _ c.row.ensures c.row-seen.ensures

pub loop-g-preserved : goal.loop-g-preserved
loop-g-preserved c = surveyed-turn c.loop-g.invariant c.loop-g-test.true _ _ c.row.ensures c.row-seen.ensures _ c.tally.auto.counts c.tally.ensures

pub returns : goal.returns
returns c = surveyed-end c.loop-g.invariant c.loop-g-test.false
