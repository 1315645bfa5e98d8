-- `Shops::without` meets its contract. The loop's invariant: `at` rows come before those of shop m, the buffer holds them, and from there on what it held.
use mathlib.Core.Path.{sym, ap₂, ◌∙◌}
use Prim.Native.Nat.{◌+◌}
use native.Mathlib.Omega.{arith}
use Rattle.trial.specs.declared.Design.TheVariants.{Unpaired}
use Rattle.trialtable.specs.Internal.{table_for}
use Rattle.trialtable.proofs.Blocks.{cut-length, cut-taken, block_room, block-rows, extends, rows-held, rows_on}
use Rattle.trialtable.proofs.Choosing.{at_first, at_next, block-fits}
use Rattle.trialtable.proofs.Chosen.{shops-known, in_turn, at-end, chooses, chosen-room}
use Rattle.trialtable.proofs.shops.Shops.without.Goals as goal

pub overflow_sub-m-end : goal.overflow_sub-m-end
overflow_sub-m-end c = omega (arith, shops-known _ _ c.requires.0.layout-good)

pub loop-m-init : goal.loop-m-init
loop-m-init c =
    let a = c.args in
    (c.requires.3 ∙ sym (at_first a.self.shops a.self.treated a.p c.requires.2 (omega (arith, shops-known _ _ c.requires.0.layout-good))), c.requires.4)

pub choice_count-many-requires : goal.choice_count-many-requires
choice_count-many-requires c =
    let k = in_turn _ _ c.requires.0.layout-good c.args.p c.loop-m.m c.requires.2 c.loop-m.auto.m c.loop-m-test.true in
    (omega (arith, k), omega (arith, k))

pub taken_by-requires : goal.taken_by-requires
taken_by-requires c =
    let k = in_turn _ _ c.requires.0.layout-good c.args.p c.loop-m.m c.requires.2 c.loop-m.auto.m c.loop-m-test.true in
    (c.requires.1.places, omega (arith, k))

pub block-requires : goal.block-requires
block-requires c =
    let l = c.loop-m in
    let a = c.args in
    let n = a.self.shops in
    let t = a.self.treated in
    let d = Unpaired n t in
    let f = c.requires.0 in
    let k = in_turn n t f.layout-good a.p l.m c.requires.2 l.auto.m c.loop-m-test.true in
    let s = chooses n t k.3 a.p l.m _ _ l.invariant.0 c.choice_count-many.ensures c.requires.2 k.0 k.1 in
    let cut = cut-length a.off.now _ l.m c.taken_by.ensures (omega (arith, k)) c.requires.1.places in
    (omega (arith, cut, f.offers-most), s.before, block-rows d a.offers a.figures.now _ f _ _ l.m s, omega (arith, block_room d a.offers _ _ l.m s, f.room, l.auto.out))

-- the rows are rows of the table
pub overflow_add-at : goal.overflow_add-at
overflow_add-at c =
    let l = c.loop-m in
    let a = c.args in
    let n = a.self.shops in
    let t = a.self.treated in
    let k = in_turn n t c.requires.0.layout-good a.p l.m c.requires.2 l.auto.m c.loop-m-test.true in
    let s = chooses n t k.3 a.p l.m _ _ l.invariant.0 c.choice_count-many.ensures c.requires.2 k.0 k.1 in
    omega (arith, block-rows (Unpaired n t) a.offers a.figures.now _ c.requires.0 _ _ l.m s)

pub loop-m-preserved : goal.loop-m-preserved
loop-m-preserved c =
    let l = c.loop-m in
    let a = c.args in
    let n = a.self.shops in
    let t = a.self.treated in
    let d = Unpaired n t in
    let T = table_for d a.offers a.figures.now in
    let f = c.requires.0 in
    let k = in_turn n t f.layout-good a.p l.m c.requires.2 l.auto.m c.loop-m-test.true in
    let s = chooses n t k.3 a.p l.m _ _ l.invariant.0 c.choice_count-many.ensures c.requires.2 k.0 k.1 in
    let b = block-fits n t a.p l.m c.requires.2 (omega (arith, k)) k.0 k.2 in
    let room = chosen-room n t k.3 a.offers a.figures.now l.at (omega (arith, b, l.invariant.0)) in
    let taken = cut-taken a.off.now _ l.m c.taken_by.ensures d a.offers a.figures.now f.offers-most (c.requires.1.taken l.m s.reached) in
    let more = extends d a.offers a.figures.now l.out (rw l.auto.out f) _ _ l.m s _ taken l.out _ (rows-held T a.offers l.at room _ l.out l.invariant.1) c.block.ensures in (
      ap₂ ◌+◌ l.invariant.0 c.choice_count-many.ensures ∙ at_next n t a.p l.m c.requires.2 (omega (arith, k)) k.0 k.2,
      rows_on T a.offers l.at (l.at + c.choice_count-many.result) (omega arith) room _ l.out _ l.invariant.1 more,
    )

pub returns : goal.returns
returns c =
    let l = c.loop-m in
    let a = c.args in
    let s = shops-known _ _ c.requires.0.layout-good in
    let e = l.auto.m-end (omega (arith, s, c.requires.2)) in
    (l.invariant.0 ∙ at-end a.self.shops a.self.treated s.3 a.p l.m c.requires.2 (omega (arith, s, c.requires.2, c.loop-m-test.false)) (omega (arith, e)), l.invariant.1)
