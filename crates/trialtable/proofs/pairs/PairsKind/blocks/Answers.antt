-- `Pairs::blocks` meets its contract. The loop's invariant: the buffer holds the table's first 2^j rows, and from there on what it held.
use mathlib.Core.Path.{◌≡◌, sym, ap, ◌∙◌}
use Prim.Native.Nat.{ℕ, ◌<◌, ◌+◌, ◌*◌, ◌%◌, ◌^◌}
use native.Mathlib.Numerals.{add-one}
use native.Mathlib.Omega.{arith}
use native.Mathlib.Nat.{two-pow-succ}
use Rattle.limits.specs.Limits.{pairs_most}
use Rattle.trial.specs.declared.Design.TheVariants.{Paired}
use Rattle.trialtable.specs.Internal.{table_for, begun}
use Rattle.trialtable.proofs.Blocks.{cut-length, cut-taken, block_room, block-rows, extends, rows-held, rows_on}
use Rattle.trialtable.proofs.Doubling.{doubles, pairs-few, shifted, power-room, power-all}
use Rattle.trialtable.proofs.Places.{begun_all}
use Rattle.trialtable.proofs.pairs.PairsKind.blocks.Goals as goal

pub overflow_shl-at : goal.overflow_shl-at
overflow_shl-at c = omega (arith, c.loop-j-test.true, pairs-few _ c.requires.0.layout-good)

pub taken_by-requires : goal.taken_by-requires
taken_by-requires c = (c.requires.1.places, omega (arith, c.loop-j-test.true, pairs-few _ c.requires.0.layout-good))

pub block-requires : goal.block-requires
block-requires c =
    let l = c.loop-j in
    let a = c.args in
    let d = Paired a.self.pairs in
    let f = c.requires.0 in
    let few : l.j < pairs_most = omega (arith, c.loop-j-test.true, pairs-few _ f.layout-good) in
    let s = doubles a.self.pairs l.j _ (shifted l.j _ c.loop-j-test.true (pairs-few _ f.layout-good)) c.loop-j-test.true in
    let cut = cut-length a.off.now _ l.j c.taken_by.ensures (omega (arith, few)) c.requires.1.places in
    (omega (arith, cut, f.offers-most), s.before, block-rows d a.offers a.figures.now _ f _ _ l.j s, omega (arith, block_room d a.offers _ _ l.j s, f.room, l.auto.out))

pub loop-j-preserved : goal.loop-j-preserved
loop-j-preserved c =
    let l = c.loop-j in
    let a = c.args in
    let d = Paired a.self.pairs in
    let T = table_for d a.offers a.figures.now in
    let f = c.requires.0 in
    let rows_are : (1 * 2 ^ l.j) % 2 ^ 64 ≡ 2 ^ l.j = shifted l.j _ c.loop-j-test.true (pairs-few _ f.layout-good) in
    let s = doubles a.self.pairs l.j _ rows_are c.loop-j-test.true in
    let p = two-pow-succ l.j in
    let room = power-room a.self.pairs a.offers a.figures.now l.j (omega (arith, c.loop-j-test.true)) in
    let z : (1 * 2 ^ l.j) % 2 ^ 64 + (1 * 2 ^ l.j) % 2 ^ 64 ≡ 2 ^ (l.j + 1) = rw add-one (omega (arith, rows_are)) in
    let held = rows-held T a.offers (2 ^ l.j) room _ l.out l.invariant ∙ ap (λ (m : ℕ). begun (m * a.offers) T l.out) (sym (rows_are)) in
    let taken = cut-taken a.off.now _ l.j c.taken_by.ensures d a.offers a.figures.now f.offers-most (c.requires.1.taken l.j s.reached) in
    let more = extends d a.offers a.figures.now l.out (rw l.auto.out f) _ _ l.j s _ taken l.out _ held c.block.ensures in
    rows_on T a.offers (2 ^ l.j) (2 ^ (l.j + 1)) (omega (arith, z, rows_are)) room _ l.out _ l.invariant (more ∙ ap (λ (m : ℕ). begun (m * a.offers) T l.out) z)

pub returns : goal.returns
returns c =
    let l = c.loop-j in
    let a = c.args in
    l.invariant ∙ begun_all (table_for (Paired a.self.pairs) a.offers a.figures.now) _ _ (power-all a.self.pairs a.offers a.figures.now l.j l.auto.j-end c.loop-j-test.false)
