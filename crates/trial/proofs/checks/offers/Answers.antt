-- `trial::checks::offers` meets its contract. The loop's invariant: the answer of all offers is that of those from offer i on.
use mathlib.Core.Path.{sym, ◌∙◌}
use Rattle.std.proofs.lemmas.Result.{err_from_is_err_and}
use Rattle.trial.proofs.Places.{place_err, place_ok, places_over}
use Rattle.trial.proofs.checks.offers.Goals as goal

pub returns-in_err-judged : goal.returns-in_err-judged
returns-in_err-judged c =
    let p = err_from_is_err_and c.from_residual.result c.from_residual.ensures.1 in
    rw (p.1, p.2) (sym (c.loop-i.invariant ∙ place_err _ _ _ c.loop-i-test.true _ _ _ (sym c.in_err-judged.ensures)))

pub loop-i-preserved : goal.loop-i-preserved
loop-i-preserved c = c.loop-i.invariant ∙ place_ok _ _ _ c.loop-i-test.true _ _ _ (sym c.in_ok-judged.ensures)

pub returns : goal.returns
returns c = sym (c.loop-i.invariant ∙ places_over _ _ _ _ c.loop-i-test.false)
