-- `trialtable::rows::first_row` meets its contract. The loop's invariant: the buffer holds the table's first i places, and from there on what it held.
use mathlib.Core.Path.{ap, ◌∙◌}
use native.Mathlib.Omega.{arith}
use mathlib.Core.List.{List}
use lib.IntN.{ℤ}
use lib.Ieee.{binary64, of_int}
use Rattle.trial.specs.Designs.{entry_of}
use Rattle.trialtable.proofs.Blocks.{first-room, first_more, offer-cut}
use Rattle.trialtable.proofs.rows.first_row.Goals as goal

pub bounds-out-i : goal.bounds-out-i
bounds-out-i g c =
    let a = c.args in
    omega (arith, (first-room (g.K.Kind.design a.kind) a.offers a.figures.now _ c.requires c.loop-i.i c.loop-i-test.true).1, c.requires.room, c.loop-i.auto.out)

pub loop-i-preserved : goal.loop-i-preserved
loop-i-preserved g c =
    let a = c.args in
    let d = g.K.Kind.design a.kind in
    let i = c.loop-i.i in
    let room = (first-room d a.offers a.figures.now _ c.requires i c.loop-i-test.true).1 in
    first_more d a.offers a.figures.now _ c.requires i c.loop-i-test.true _ _ (omega (arith, room, c.requires.room)) c.loop-i.invariant c.first.result
    (c.first.ensures ∙ ap (λ (ys : List ℤ). of_int binary64 (entry_of d 0 ys)) (offer-cut a.figures.now _ _ i c.units-n.ensures))
