-- `blocks_passed` meets its contract. The invariant: none in the first b blocks equals it.
use Prim.Native.Nat.{◌+◌, ◌*◌}
use mathlib.Core.Path.{◌≡◌, refl, sym, ◌∙◌}
use native.Mathlib.Omega.{arith}
use lib.Ieee.{nan}
use Rattle.order.proofs.Firsts.{first-skip}
use Rattle.order.proofs.equals.blocks_passed.Goals as goal

pub loop-b-preserved : goal.loop-b-preserved
loop-b-preserved c =
    let b = c.loop-b.b in
    let next : 16 * (b + 1) ≡ 16 * b + 16 = omega arith in
    rw next (first-skip _ _ nan (16 * b) 16 (16 * b + 16) refl (omega (arith, c.loop-b-test.true)) (sym c.has_equal.ensures ∙ c.if-has_equal.false) c.loop-b.invariant)
