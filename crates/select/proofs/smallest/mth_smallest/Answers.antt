-- `mth_smallest` meets its contract. The invariant: what is held is what a search holds; each pass leaves fewer bits free.
use mathlib.Core.Path.{◌∙◌}
use Rattle.select.proofs.Passes.{value-held}
use Rattle.select.proofs.Steps.{none-held, none_free}
use Rattle.select.proofs.smallest.mth_smallest.Goals as goal

pub loop-h-init : goal.loop-h-init
loop-h-init c = none-held _ _ _ _ _

pub returns : goal.returns
returns c =
    let q = c.requires in
    c.value_at.ensures ∙ value-held _ _ q.0 q.1 q.2 _ (none_free _ _ q.0 q.1 q.2 _ c.loop-h.invariant c.loop-h-test.false)
