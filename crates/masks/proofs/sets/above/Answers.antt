-- `above` meets its contract. The invariant: what is marked and what is still to be marked make the whole.
use Rattle.masks.proofs.MaskScan.{above-start, above_in, above-past, above-done, above-fits, above-room, above-keep}
use native.Mathlib.Omega.{arith}
use mathlib.Core.Path.{sym, ◌∙◌}
use Rattle.masks.proofs.sets.above.Goals as goal
use Rattle.masks.proofs.sets.above.Goals.{else-lowest_over, then-lowest_over}

pub loop-i-init : goal.loop-i-init
loop-i-init c = (omega arith, c.requires, omega arith, above-start _ _ _)

pub overflow_add-m : goal.overflow_add-m
overflow_add-m c = let l = c.loop-i.invariant in record { fits = above-fits _ _ _ _ c.loop-i-test.true l.1 l.2 c.bit-m.ensures }

pub loop-i-preserved : goal.loop-i-preserved
loop-i-preserved c =
    let l = c.loop-i.invariant in
    elim c.if-lowest_over.branch [ then-lowest_over w ↦ (omega arith, l.1, above-room _ _ _ _ l.2 w.bit-m.ensures w.m-is, above_in _ _ _ _ c.loop-i-test.true _ _ _ _ (sym c.lowest_over.ensures ∙ w.if-lowest_over.true) w.bit-m.ensures w.m-is l.3) | else-lowest_over w ↦ (omega arith, l.1, above-keep _ _ _ l.2 w.m-is, above-past _ _ _ _ c.loop-i-test.true _ _ _ (sym c.lowest_over.ensures ∙ w.if-lowest_over.false) w.m-is l.3) ]

pub returns : goal.returns
returns c = above-done _ _ _ _ _ _ c.loop-i-test.false c.loop-i.invariant.3
