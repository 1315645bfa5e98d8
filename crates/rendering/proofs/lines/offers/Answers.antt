-- `offers`: one line more with each offer.
use Rattle.text.proofs.Lines.{lines_none, lines_more, lines_room}
use Rattle.rendering.specs.Reports.{offer_line_at}
use Rattle.rendering.proofs.lines.offers.Goals as goal

pub loop-i-init : goal.loop-i-init
loop-i-init c = lines_none _ _

pub offer-requires : goal.offer-requires
offer-requires c = record { room = lines_room (offer_line_at c.args.labels c.args.run) _ c.loop-i.i _ c.loop-i.invariant _ _ c.loop-i-test.true c.requires.room }

pub loop-i-preserved : goal.loop-i-preserved
loop-i-preserved c = lines_more (offer_line_at c.args.labels c.args.run) _ c.loop-i.i _ c.loop-i.invariant _ c.offer.ensures
