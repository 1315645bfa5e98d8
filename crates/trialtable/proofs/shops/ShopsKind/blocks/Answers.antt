-- `Shops::blocks` meets its contract. The loop's invariant: the buffer holds the rows whose choices have the shops before p, and from there on what it held.
use mathlib.Core.Path.{◌≡◌, refl, sym, ap, ap₂, ◌∙◌}
use Prim.Native.Nat.{ℕ, ◌-◌, ◌*◌}
use native.Mathlib.Omega.{arith}
use lib.ListN.{length}
use Rattle.trial.specs.Choices.{choices}
use Rattle.trial.specs.declared.Design.TheVariants.{Unpaired}
use Rattle.trial.specs.Designs.{row_count}
use Rattle.trialtable.specs.Internal.{table_for}
use Rattle.trialtable.proofs.Blocks.{rows-begin, rows_on}
use Rattle.trialtable.proofs.Chosen.{shops-known, no-choice, before-room, chosen-rising}
use Rattle.trialtable.proofs.Places.{table_for-length, begun_all}
use Rattle.trialtable.proofs.shops.ShopsKind.blocks.Goals as goal

pub loop-p-init : goal.loop-p-init
loop-p-init c =
    let a = c.args in
    let n = a.self.shops in
    let t = a.self.treated in
    let z : t - t ≡ 0 = omega arith in
    (sym (ap (λ (u : ℕ). length (choices (n - t) u)) z ∙ no-choice (n - t)), rows-begin (table_for (Unpaired n t) a.offers a.figures.now) a.offers 1 refl _ c.requires.2)

pub loop-p-preserved : goal.loop-p-preserved
loop-p-preserved c =
    let l = c.loop-p in
    let a = c.args in
    let n = a.self.shops in
    let t = a.self.treated in
    let T = table_for (Unpaired n t) a.offers a.figures.now in
    let room = before-room n t c.requires.0.layout-good a.offers a.figures.now l.p l.at l.auto.p l.invariant.0 in
    let rising = chosen-rising n t l.p c.loop-p-test.true l.auto.p (omega (arith, shops-known n t c.requires.0.layout-good)) in
    let e = c.without-at.ensures in
    (e.0, rows_on T a.offers l.at c.without-at.result (omega (arith, l.invariant.0, e.0, rising)) room _ l.out _ l.invariant.1 e.1)

pub returns : goal.returns
unfolding row_count
returns c =
    let l = c.loop-p in
    let a = c.args in
    let n = a.self.shops in
    let t = a.self.treated in
    let z : l.p ≡ 0 = omega (arith, c.loop-p-test.false) in
    let u : n - l.p ≡ n = omega (arith, z) in
    let v : t - l.p ≡ t = omega (arith, z) in
    let e : l.at ≡ length (choices n t) = l.invariant.0 ∙ ap₂ (λ (x y : ℕ). length (choices x y)) u v in
    l.invariant.1 ∙ begun_all (table_for (Unpaired n t) a.offers a.figures.now) _ _ (ap (λ (r : ℕ). r * a.offers) e ∙ sym (table_for-length (Unpaired n t) a.offers a.figures.now))
