-- `largest` meets its contract: from a bound that a set is above, or from minus infinity.
use Rattle.putback.proofs.BarOf.{risen-best}
use lib.Ieee.{of_bits}
use mathlib.Core.Path.{◌∙◌}
use native.Mathlib.Omega.{arith}
use Rattle.putback.proofs.start.largest.Goals as goal

pub climb-r-requires : goal.climb-r-requires
climb-r-requires c = let q = c.requires in let l = c.likely_below-v in (omega (arith, l.auto.work, q.0), q.1, q.2, q.3, q.4, l.ensures.0)

pub returns-then-v-r : goal.returns-then-v-r
returns-then-v-r c = let r = c.climb-r.ensures in let l = c.likely_below-v.ensures in (risen-best _ c.args.table.checked _ _ _ l.0 c.if-v-r.true r.0, r.1 ∙ l.1)

pub climb-requires : goal.climb-requires
unfolding of_bits
climb-requires c = let q = c.requires in let l = c.likely_below-v in let r = c.climb-r in (omega (arith, r.auto.work, l.auto.work, q.0), q.1, q.2, omega (arith, r.auto.kept, q.3), omega (arith, r.auto.marks, q.4), tt)

pub returns : goal.returns
unfolding of_bits
returns c = let l = c.likely_below-v.ensures in let r = c.climb-r.ensures in let w = c.climb.ensures in (w.0, w.1 ∙ r.1 ∙ l.1)
