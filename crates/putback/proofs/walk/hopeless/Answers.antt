-- `hopeless` meets its contract.
use Rattle.putback.proofs.Pruning.{hopeless-set, hopeless-all}
use borrow.Author.Tests.{le-leb}
use mathlib.Core.Path.{◌∙◌}
use Rattle.putback.proofs.walk.hopeless.Goals as goal

pub returns-then-count_holding-e : goal.returns-then-count_holding-e
returns-then-count_holding-e c = le-leb _ _ c.if-count_holding-e.true ∙ hopeless-set _ _ _ _ _ c.count_holding.ensures c.if-count_holding-e.true

pub returns-else-count_holding-e : goal.returns-else-count_holding-e
returns-else-count_holding-e c = hopeless-all _ _ _ _ _ c.count_holding.ensures c.if-count_holding-e.false _ c.few_in_all.ensures
