-- `trialfile::judging::judge_offers` meets its contract: each offer by the labels that were read.
use mathlib.Core.Path.{sym, ◌∙◌}
use Rattle.std.proofs.lemmas.Result.{err_from_is_err_and}
use Rattle.trial.proofs.Places.{place_err, place_ok, places_over}
use Rattle.words.specs.Words.{words_of}
use Rattle.trialfile.proofs.Judged.{offer_placed}
use Rattle.trialfile.proofs.judging.judge_offers.Goals as goal

pub returns-in_err-judge_offer : goal.returns-in_err-judge_offer
returns-in_err-judge_offer c =
    let a = c.args in
    let r = c.read_labels-labels.ensures in
    let here = offer_placed (words_of a.file.now) a.l _ _ _ _ _ c.loop-i-test.true r.0 r.1 c.word_at-w.ensures in
    let p = err_from_is_err_and c.from_residual.result c.from_residual.ensures.1 in
    rw (p.1, p.2) (sym (c.loop-i.invariant ∙ place_err _ _ _ c.loop-i-test.true _ _ _ (sym here ∙ sym c.in_err-judge_offer.ensures)))

pub loop-i-preserved : goal.loop-i-preserved
loop-i-preserved c =
    let a = c.args in
    let r = c.read_labels-labels.ensures in
    let here = offer_placed (words_of a.file.now) a.l _ _ _ _ _ c.loop-i-test.true r.0 r.1 c.word_at-w.ensures in
    c.loop-i.invariant ∙ place_ok _ _ _ c.loop-i-test.true _ _ _ (sym here ∙ sym c.in_ok-judge_offer.ensures)

pub returns : goal.returns
returns c = sym (c.loop-i.invariant ∙ places_over _ _ _ _ c.loop-i-test.false)
