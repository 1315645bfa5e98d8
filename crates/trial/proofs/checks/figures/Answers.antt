-- `trial::checks::figures` meets its contract.
use mathlib.Core.Path.{◌≡◌, sym, ap, ◌∙◌}
use mathlib.Core.Bool.{Bool}
use lib.Seq.{take_all}
use Rattle.std.specs.List.{list_any}
use Rattle.refusals.specs.Answers.{refused_where}
use Rattle.refusals.specs.declared.refusal.Refusal.TheVariants.{Figure}
use Rattle.trial.specs.Refusals.{bad_difference}
use Rattle.trial.proofs.Conditions.{figures_any}
use Rattle.trial.proofs.checks.figures.Goals as goal

pub returns : goal.returns
returns c =
    let e : c.loop-x.bad ≡ list_any bad_difference c.args.xs.now = c.loop-x.invariant ∙ ap (list_any bad_difference) (take_all c.loop-x.x-index c.args.xs.now c.loop-x-test.false) in
    c.if_true.ensures.value ∙ ap (λ (b : Bool). refused_where b Figure) e ∙ sym (figures_any c.args.xs.now)
