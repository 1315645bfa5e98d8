-- `members` meets its contract. The invariant: what is listed and what is still to be listed make the whole.
use Rattle.critical.proofs.Members.{listed_start, listed_in, listed-past, listed-done}
use lib.ListN.{length, length-set}
use mathlib.Core.List.{[]}
use native.Mathlib.Omega.{arith}
use mathlib.Core.Path.{refl, ap, ◌∙◌}
use Rattle.critical.proofs.kmax.members.Goals as goal
use Rattle.critical.proofs.kmax.members.Goals.{else-s-eq1, then-s-eq1}

pub loop-i-init : goal.loop-i-init
loop-i-init c = (omega arith, c.requires, omega arith, refl, listed_start c.args.columns c.args.set [])

pub loop-i-preserved : goal.loop-i-preserved
loop-i-preserved c =
    let t = c.loop-i-test.true in
    let l = c.loop-i.invariant in
    elim c.if-s-eq1.branch [ then-s-eq1 w ↦ (omega arith, l.1, omega (arith, w.n-is, l.2), ap length w.at-is ∙ length-set c.loop-i.at _ _ ∙ l.3, listed_in _ _ _ _ _ _ t l.4 _ _ (omega (arith, l.1, l.2, l.3)) w.if-s-eq1.true w.at-is w.n-is) | else-s-eq1 w ↦ (omega arith, l.1, omega (arith, w.n-is, l.2), ap length w.at-is ∙ l.3, listed-past _ _ _ _ _ _ t l.4 _ _ w.if-s-eq1.false w.at-is w.n-is) ]

pub returns : goal.returns
returns c = let l = c.loop-i.invariant in listed-done c.args.columns c.args.set c.loop-i.s c.loop-i.i c.loop-i.n c.loop-i.at c.loop-i-test.false l.0 l.2 l.1 l.3 l.4
