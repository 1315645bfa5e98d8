-- `trialfile::judging::judge_body` meets its contract: offers, figures and end at the places of the layout.
use mathlib.Core.Path.{sym, ◌∙◌}
use native.Mathlib.Omega.{arith}
use Rattle.std.proofs.lemmas.Result.{err_from_is_err_and}
use Rattle.layouts.proofs.Layouts.{count_most, length_most, stands}
use Rattle.trialfile.proofs.Judged.{offers_err, figures_err, end_left}
use Rattle.trialfile.proofs.judging.judge_body.Goals as goal

pub judge_offers-requires : goal.judge_offers-requires
judge_offers-requires c = (c.requires.0, omega (arith, (stands _ _ c.of_shape-l.ensures).offers-at))

pub returns-in_err-judge_offers : goal.returns-in_err-judge_offers
returns-in_err-judge_offers c =
    let p = err_from_is_err_and c.from_residual.result c.from_residual.ensures.1 in
    rw (p.1, p.2) (sym (offers_err _ _ _ c.of_shape-l.ensures tt tt _ (sym c.in_err-judge_offers.ensures)))

pub overflow_sub-l : goal.overflow_sub-l
overflow_sub-l c = let p = stands _ _ c.of_shape-l.ensures in omega (arith, p.figures-at, p.end-at)

pub judge_figures-requires : goal.judge_figures-requires
judge_figures-requires c =
    let p = stands _ _ c.of_shape-l.ensures in
    let q = c.requires in
    let m = count_most c.args.shape q.0 q.1 in
    (omega (arith, p.figures-at, p.end-at), omega (arith, p.figures-at, q.0))

pub returns-in_err-judge_figures : goal.returns-in_err-judge_figures
returns-in_err-judge_figures c =
    let p = stands _ _ c.of_shape-l.ensures in
    let q = err_from_is_err_and c.from_residual-in_err-judge_figures.result c.from_residual-in_err-judge_figures.ensures.1 in
    rw (q.1, q.2) (sym (figures_err _ _ _ c.of_shape-l.ensures tt tt _ (sym c.in_ok-judge_offers.ensures) _ (omega (arith, p.figures-at, p.end-at)) _ (sym c.in_err-judge_figures.ensures)))

pub judge_end-requires : goal.judge_end-requires
judge_end-requires c =
    let q = c.requires in
    omega (arith, length_most _ _ c.of_shape-l.ensures q.0 q.1)

pub returns : goal.returns
returns c =
    let p = stands _ _ c.of_shape-l.ensures in
    c.judge_end.ensures
    ∙ sym (end_left _ _ _ c.of_shape-l.ensures tt tt _ (sym c.in_ok-judge_offers.ensures) _ (omega (arith, p.figures-at, p.end-at)) (sym c.in_ok-judge_figures.ensures))
