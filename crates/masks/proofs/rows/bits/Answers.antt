-- `bits` meets its contract. The invariant: the first j bits are there.
use Rattle.order.specs.Lists.{tabulate}
use Rattle.order.proofs.Powers.{bit_is}
use Rattle.masks.proofs.Marking.{tabulated-more, tabulated-all}
use lib.ListN.{length-set}
use lib.Seq.{take_all}
use native.Mathlib.Omega.{arith}
use Prim.Native.Nat.{◌^◌}
use mathlib.Core.Path.{refl, sym, ◌∙◌}
use Rattle.masks.proofs.rows.bits.Goals as goal

pub loop-j-init : goal.loop-j-init
unfolding tabulate
loop-j-init c = (refl, refl)

pub loop-j-preserved : goal.loop-j-preserved
loop-j-preserved c = let l = c.loop-j.invariant in (simp length-set l.0, tabulated-more (λ i. 2 ^ i) c.loop-j.j _ c.loop-j.bits _ (omega (arith, l.0)) (bit_is 64 _ (omega arith)) refl l.1)

pub returns : goal.returns
returns c = let l = c.loop-j.invariant in sym (take_all 32 c.loop-j.bits (omega (arith, l.0))) ∙ tabulated-all (λ i. 2 ^ i) c.loop-j.j 32 _ (omega arith) c.loop-j-test.false l.1
