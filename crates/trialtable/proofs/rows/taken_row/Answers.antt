-- `trialtable::rows::taken_row` meets its contract. The loop's invariant: the first i places of the row hold what they should, and those before it what they held.
use mathlib.Core.Path.{ap, ◌∙◌}
use mathlib.Core.List.{List}
use Prim.Native.Nat.{◌*◌, ◌+◌}
use native.Mathlib.Omega.{arith}
use lib.ListN.{take, drop}
use lib.IntN.{ℤ}
use lib.Ieee.{binary64, of_int}
use Rattle.limits.specs.Limits.{offers_most}
use Rattle.trial.specs.Designs.{units_of}
use Rattle.trialtable.specs.Internal.{taken_off}
use Rattle.trialtable.proofs.Blocks.{taken_more, taken-before, offer-cut}
use Rattle.trialtable.proofs.Cases.{few-figures}
use Rattle.trialtable.proofs.rows.taken_row.Goals as goal

pub overflow_mul-at : goal.overflow_mul-at
overflow_mul-at g c = omega (arith, c.requires.2, few-figures _ (g.K.Kind.accepted c.args.kind))

pub overflow_add-off : goal.overflow_add-off
overflow_add-off g c = omega (arith, c.loop-i-test.true, c.requires.0, c.requires.2, few-figures _ (g.K.Kind.accepted c.args.kind))

pub offset_bounds-off-at : goal.offset_bounds-off-at
offset_bounds-off-at g c = omega (arith, c.loop-i-test.true, c.requires.0, c.requires.2, few-figures _ (g.K.Kind.accepted c.args.kind))

pub bounds-off-at : goal.bounds-off-at
bounds-off-at g c = omega (arith, c.loop-i-test.true, c.requires.0, c.requires.2, c.requires.3, few-figures _ (g.K.Kind.accepted c.args.kind), c.loop-i.auto.off)

pub loop-i-preserved : goal.loop-i-preserved
loop-i-preserved g c =
    let a = c.args in
    let d = g.K.Kind.design a.kind in
    let l = c.loop-i in (
      taken_more (λ k. of_int binary64 (taken_off d a.j (take (units_of d) (drop (k * units_of d) a.figures.now)))) l.off (offers_most * a.j) l.i c.taken_off.result
          (omega (arith, c.loop-i-test.true, c.requires.0, c.requires.2, c.requires.3, few-figures _ (g.K.Kind.accepted c.args.kind), l.auto.off)) l.invariant.0
          (c.taken_off.ensures ∙ ap (λ (ys : List ℤ). of_int binary64 (taken_off d a.j ys)) (offer-cut a.figures.now _ _ l.i c.units-n.ensures)),
      λ p h. taken-before l.off (offers_most * a.j + l.i) p c.taken_off.result (omega arith) ∙ l.invariant.1 p h,
    )
