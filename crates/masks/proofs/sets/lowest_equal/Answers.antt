-- `lowest_equal` meets its contract. The invariant: the column that is looked for is the one from `i` on.
use Rattle.masks.proofs.MaskScan.{lowest_start, lowest-hit, lowest-on, lowest-out}
use native.Mathlib.Omega.{arith}
use mathlib.Core.Path.{sym, ◌∙◌}
use Rattle.masks.proofs.sets.lowest_equal.Goals as goal

pub loop-i-init : goal.loop-i-init
loop-i-init c = (omega arith, lowest_start _ _ _)

pub returns-then-lowest_is : goal.returns-then-lowest_is
returns-then-lowest_is c = lowest-hit _ _ _ _ c.loop-i-test.true _ (sym c.lowest_is.ensures ∙ c.if-lowest_is.true) c.loop-i.invariant.1

pub loop-i-preserved : goal.loop-i-preserved
loop-i-preserved c = (omega arith, lowest-on _ _ _ _ c.loop-i-test.true _ (sym c.lowest_is.ensures ∙ c.if-lowest_is.false) c.loop-i.invariant.1)

pub returns : goal.returns
returns c = let l = c.loop-i.invariant in lowest-out _ _ _ _ _ l.0 c.loop-i-test.false l.1
