-- `trialfile::judging::judge_figures` meets its contract.
use mathlib.Core.Path.{sym, ◌∙◌}
use Rattle.std.proofs.lemmas.Result.{err_from_is_err_and}
use Rattle.trial.proofs.Places.{place_err, place_ok, places_over}
use Rattle.trialfile.proofs.judging.judge_figures.Goals as goal

pub returns-in_err-judge_figure : goal.returns-in_err-judge_figure
returns-in_err-judge_figure c =
    let p = err_from_is_err_and c.from_residual.result c.from_residual.ensures.1 in
    rw (p.1, p.2) (sym (c.loop-i.invariant ∙ place_err _ _ _ c.loop-i-test.true _ _ _ (sym c.in_err-judge_figure.ensures)))

pub loop-i-preserved : goal.loop-i-preserved
loop-i-preserved c = c.loop-i.invariant ∙ place_ok _ _ _ c.loop-i-test.true _ _ _ (sym c.in_ok-judge_figure.ensures)

pub returns : goal.returns
returns c = sym (c.loop-i.invariant ∙ places_over _ _ _ _ c.loop-i-test.false)
