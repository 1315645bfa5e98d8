-- `order::plus_zero` meets its contract: only the zeros equal zero.
use Prim.Native.Nat.{ℕ, zero, suc, ◌*◌, ◌<◌}
use native.Mathlib.Omega.{arith}
use native.Mathlib.Nat.{zero-mul, mul-pos}
use mathlib.Core.Path.{◌≡◌, refl, sym, ap, ◌∙◌}
use mathlib.Core.Bool.{true, false, ◌||◌, beq}
use lib.Dec.{eqb, eqb→eq}
use lib.Ieee.{Float, nan, inf, fin, eq, of_bits, up, down}
use lib.Ieee.Fits.{up_pos}
use borrow.Author.Tests.{eq-eqb}
use Rattle.order.specs.Order.{plus_zero, with_plus_zero}
use Rattle.order.proofs.Booleans.{never, true-T, and_left, and_both, or_right}
use Rattle.order.proofs.plus_zero.Goals as goal

is_zero : (x : Float) → eq x plus_zero ≡ true → plus_zero ≡ with_plus_zero x
unfolding eq with_plus_zero
is_zero nan h = absurd (never false refl (true-T false h))
is_zero (inf s) h = absurd (never false refl (true-T false h))
is_zero (fin s zero e) h = refl
is_zero (fin s (suc m) e) h =
    let a = suc m * up e * 1 in
    let b = 0 * 1 * down e in
    let q : a ≡ b = eqb→eq a b (and_left (eqb a b) (beq s false || eqb a 0) (true-T (eq (fin s (suc m) e) plus_zero) h)) in
    let p : 0 < a = mul-pos (mul-pos (omega arith) (up_pos e)) (omega arith) in
    absurd (omega (arith, zero-mul (down e)))

no_zero : (x : Float) → eq x plus_zero ≡ false → x ≡ with_plus_zero x
unfolding eq with_plus_zero
no_zero nan h = refl
no_zero (inf s) h = refl
no_zero (fin s zero e) h =
    let a = 0 * up e * 1 in
    let b = 0 * 1 * down e in
    let p : a ≡ 0 = ap (λ (n : ℕ). n * 1) (zero-mul (up e)) in
    let q : b ≡ 0 = zero-mul (down e) in
    absurd (never (eq (fin s zero e) plus_zero) h (and_both (eqb a b) (beq s false || eqb a 0) (true-T (eqb a b) (eq-eqb a b (p ∙ sym q))) (or_right (beq s false) (eqb a 0) (true-T (eqb a 0) (eq-eqb a 0 p)))))
no_zero (fin s (suc m) e) h = refl

pub returns-then-x : goal.returns-then-x
unfolding of_bits
returns-then-x c = is_zero c.args.x c.if-x.true

pub returns-else-x : goal.returns-else-x
unfolding of_bits
returns-else-x c = no_zero c.args.x c.if-x.false
