-- `ends` meets its contract.
use Rattle.engine.proofs.OneStep.{stops-none, stops-few, stops-full}
use Rattle.order.proofs.Booleans.{never, true-T}
use borrow.Author.Tests.{eq-eqb, ltb-true, ltb-false}
use mathlib.Core.Path.{sym, ◌∙◌}
use Rattle.engine.proofs.steps.ends.Goals as goal
use Rattle.engine.proofs.steps.ends.Goals.{then-new-eq0, else-new-eq0}

pub returns-then-size_of-k : goal.returns-then-size_of-k
returns-then-size_of-k c =
    let t = c.if-size_of-k.true in
    elim c.if-new-eq0.branch [ then-new-eq0 w ↦ t ∙ stops-none _ _ _ _ _ w.if-new-eq0.true | else-new-eq0 w ↦ t ∙ stops-few _ _ _ _ _ w.if-new-eq0.false _ w.size_of.ensures (ltb-true _ _ (sym w.value-is ∙ t)) ]

pub returns-else-size_of-k : goal.returns-else-size_of-k
returns-else-size_of-k c =
    let f = c.if-size_of-k.false in
    elim c.if-new-eq0.branch [ then-new-eq0 w ↦ absurd (never _ f (true-T _ (w.value-is ∙ eq-eqb _ _ w.if-new-eq0.true))) | else-new-eq0 w ↦ stops-full _ _ _ _ _ w.if-new-eq0.false _ w.size_of.ensures (ltb-false _ _ (sym w.value-is ∙ f)) ]
