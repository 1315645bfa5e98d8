-- `trial::live::mask` meets its contract. The loop's invariant: m is the mask of the offers from i on.
use native.Mathlib.Omega.{arith}
use Rattle.trial.proofs.LaidOut.{count_most}
use Rattle.trial.proofs.Aside.{mask_start, mask-room, mask-turn, mask_end}
use Rattle.trial.proofs.live.mask.Goals as goal

pub loop-i-init : goal.loop-i-init
loop-i-init c =
    let t = c.args.t in
    (omega (arith, c.requires.1, c.units-n.ensures), count_most t.shape _ c.requires.0 c.requires.2 c.units-n.ensures, mask_start t.shape.design t.shape.offers _ t.figures)

pub with_first-m-requires : goal.with_first-m-requires
with_first-m-requires c = let l = c.loop-i in mask-room _ _ _ _ l.i _ c.requires.0 l.invariant.2

pub loop-i-preserved : goal.loop-i-preserved
loop-i-preserved c =
    let l = c.loop-i in
    (l.invariant.0, l.invariant.1, mask-turn _ _ _ _ l.i _ _ _ c.loop-i-test.true l.auto.i l.invariant.2 c.untested-aside.ensures c.with_first-m.ensures)

pub returns : goal.returns
returns c = let l = c.loop-i in mask_end c.args.t _ l.i _ c.units-n.ensures (omega (arith, c.loop-i-test.false)) l.invariant.2
