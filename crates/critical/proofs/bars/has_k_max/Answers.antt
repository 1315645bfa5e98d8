-- `has_k_max` meets its contract: a k-max is one of the row's values.
use mathlib.Core.Path.{sym, ap, ◌∙◌}
use Rattle.order.specs.Order.{equal}
use Rattle.critical.proofs.LowestRow.{no-k-max}
use Rattle.critical.proofs.bars.has_k_max.Goals as goal

pub returns-then-has_equal : goal.returns-then-has_equal
returns-then-has_equal c = c.equal.ensures ∙ ap (equal _) c.kmax.ensures

pub returns-else-has_equal : goal.returns-else-has_equal
returns-else-has_equal c =
    let q = c.requires in
    c.if-has_equal.false ∙ no-k-max _ _ _ _ q.0 q.1 q.2 q.3 q.5 (sym c.has_equal.ensures ∙ c.if-has_equal.false)
