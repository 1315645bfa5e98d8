-- `trialwriter::writer::write_figures` meets its contract. The loop's invariant: the words of the first i figures are stored.
use Prim.Native.Nat.{ℕ}
use native.Mathlib.Omega.{arith}
use lib.ListN.{get_or}
use lib.IntN.{pos}
use Rattle.trial.specs.Refusals.{nth}
use Rattle.words.specs.Words.{difference_word}
use Rattle.trialwriter.proofs.Stored.{figure-small, figure-word, store-start, store-turn, store_length, store-end}
use Rattle.trialwriter.proofs.writer.write_figures.Goals as goal

pub loop-i-init : goal.loop-i-init
loop-i-init c = store-start _ _ _

pub difference_word-requires : goal.difference_word-requires
difference_word-requires c =
    let l = c.loop-i in
    figure-small (get_or c.args.figures.now l.i (pos 0)) c.difference_word-arg-1.given _ (c.requires.4 l.i c.loop-i-test.true)

pub put_word-requires : goal.put_word-requires
put_word-requires c =
    let p = c.requires in
    let l = store_length _ _ _ c.loop-i.i _ c.loop-i.invariant in
    (omega (arith, p.0, p.2, c.loop-i-test.true), omega (arith, p.3, l, c.loop-i-test.true))

pub loop-i-preserved : goal.loop-i-preserved
loop-i-preserved c =
    let l = c.loop-i in
    let a = c.args in
    let f : ℕ → ℕ = λ j. difference_word (nth a.figures.now (pos 0) j) in
    store-turn f a.out.now a.at l.i _ l.out _ l.invariant (figure-word _ c.difference_word-arg-1.given _ c.difference_word.ensures) c.put_word.ensures

pub returns : goal.returns
returns c = let l = c.loop-i in store-end _ _ _ l.i _ _ l.auto.i-end c.loop-i-test.false l.invariant
