-- `trialwriter::writer::write_offers` meets its contract. The loop's invariant: the words of the first i offers are stored.
use Prim.Native.Nat.{ℕ}
use native.Mathlib.Omega.{arith}
use Rattle.trial.specs.Refusals.{nth}
use Rattle.words.specs.Words.{offer_word}
use Rattle.trialwriter.proofs.Stored.{store-start, store-turn, store_length, store-end}
use Rattle.trialwriter.proofs.writer.write_offers.Goals as goal

pub loop-i-init : goal.loop-i-init
loop-i-init c = store-start _ _ _

pub offer_word-requires : goal.offer_word-requires
offer_word-requires c = c.requires.5 c.loop-i.i c.loop-i-test.true

pub put_word-requires : goal.put_word-requires
put_word-requires c =
    let p = c.requires in
    let l = store_length _ _ _ c.loop-i.i _ c.loop-i.invariant in
    (omega (arith, p.0, p.3, c.loop-i-test.true), omega (arith, p.4, l, c.loop-i-test.true))

pub loop-i-preserved : goal.loop-i-preserved
loop-i-preserved c =
    let l = c.loop-i in
    let a = c.args in
    let f : ℕ → ℕ = λ j. offer_word (nth a.codes.now 0 j) (nth a.digits.now 0 j) in
    store-turn f a.out.now a.at l.i _ l.out _ l.invariant c.offer_word.ensures c.put_word.ensures

pub returns : goal.returns
returns c = let l = c.loop-i in store-end _ _ _ l.i _ _ l.auto.i-end c.loop-i-test.false l.invariant
