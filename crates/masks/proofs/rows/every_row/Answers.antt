-- `every_row` meets its contract. The invariant: the first g places are filled.
use Rattle.order.specs.Lists.{tabulate}
use Rattle.masks.proofs.Marking.{tabulated-more, tabulated-all}
use lib.ListN.{length-set}
use native.Mathlib.Omega.{arith}
use mathlib.Core.Path.{refl}
use Rattle.masks.proofs.rows.every_row.Goals as goal

pub loop-g-init : goal.loop-g-init
unfolding tabulate
loop-g-init c = let p = c.requires in (omega arith, p.0, p.1, refl, refl)

pub loop-g-preserved : goal.loop-g-preserved
loop-g-preserved c = let l = c.loop-g.invariant in (omega arith, l.1, l.2, simp length-set l.3, tabulated-more (λ i. i) c.loop-g.g _ c.loop-g.kept _ (omega (arith, l.2, l.3)) refl refl l.4)

pub returns : goal.returns
returns c = let l = c.loop-g.invariant in tabulated-all (λ i. i) _ c.args.rows _ l.0 c.loop-g-test.false l.4
