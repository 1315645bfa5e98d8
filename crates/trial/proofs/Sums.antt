-- Laws of signed sums: how large they are, and what a second exchange does.
use Prim.Native.Nat.{ℕ, zero, suc, ◌+◌, ◌-◌, ◌*◌, ◌/◌, ◌%◌, ◌≤◌, ◌<◌}
use native.Mathlib.Omega.{arith}
use native.Mathlib.Nat.{mod-lt}
use mathlib.Core.Path.{◌≡◌, refl, sym, ap, ap₂, ◌∙◌}
use mathlib.Core.Bool.{Bool, true, false, not, cond}
use mathlib.Core.List.{List, [], ◌∷◌}
use lib.ListN.{length, get_or}
use lib.Dec.{T, ltb, eqb}
use lib.Bits.{bit_xor, xor_shr, xor_mod}
use lib.IntN.{ℤ, pos, negsuc, nat_abs, neg_ℤ, sub_ℕ, ◌+ℤ◌, neg_ℤ-neg_ℤ}
use borrow.Author.Tests.{ltb-true}
use Rattle.order.specs.Counting.{all}
use Rattle.order.proofs.Booleans.{digit-cases}
use Rattle.order.proofs.Counts.{all_get_d}
use Rattle.limits.specs.Limits.{difference_most}
use Rattle.trial.specs.Pairs.{exchanged, signed_sum, exchanged_by}
use Rattle.trial.specs.Refusals.{bad_difference}
use Rattle.trial.specs.Internal.{Ranged}

-- ---- magnitudes

abs-sub : (a b : ℕ) → nat_abs (sub_ℕ a b) ≤ a + b
abs-sub a b = go (ltb a b) refl
  where
    go : (t : Bool) → ltb a b ≡ t → nat_abs (cond t (negsuc (b - suc a)) (pos (a - b))) ≤ a + b
    go true e = omega (arith, ltb-true a b e)
    go false e = omega arith

pub abs-add : (a b : ℤ) → nat_abs (a +ℤ b) ≤ nat_abs a + nat_abs b
abs-add (pos a) (pos b) = omega arith
abs-add (pos a) (negsuc b) = abs-sub a (suc b)
abs-add (negsuc a) (pos b) = omega (arith, abs-sub b (suc a))
abs-add (negsuc a) (negsuc b) = omega arith

pub abs_neg : (a : ℤ) → nat_abs (neg_ℤ a) ≡ nat_abs a
abs_neg (pos zero) = refl
abs_neg (pos (suc n)) = refl
abs_neg (negsuc n) = refl

abs-exchanged : (b : Bool) (d : ℤ) → nat_abs (exchanged b d) ≡ nat_abs d
abs-exchanged true d = abs_neg d
abs-exchanged false d = refl

abbrev pub InRange : List ℤ → Type 0
InRange ds = T (all (λ d. not (bad_difference d)) ds)

in-range : (d : ℤ) → T (not (bad_difference d)) → nat_abs d ≤ difference_most
unfolding bad_difference
in-range d t = lib.Dec.nltb→le difference_most (nat_abs d) t

pub all-in-range : (ds : List ℤ) → InRange ds → Ranged (length ds) ds
all-in-range ds t i h = in-range (get_or ds i (pos 0)) (all_get_d (λ d. not (bad_difference d)) ds i (pos 0) h t)

pub signed_sum-small : (g : ℕ) (ds : List ℤ) → Ranged (length ds) ds → nat_abs (signed_sum g ds) ≤ length ds * difference_most
unfolding signed_sum
signed_sum-small g [] h = omega arith
signed_sum-small g (d ∷ ds) h =
    omega (
      arith,
      abs-add (exchanged (eqb (g % 2) 1) d) (signed_sum (g / 2) ds),
      abs-exchanged (eqb (g % 2) 1) d,
      h 0 (omega arith),
      signed_sum-small (g / 2) ds (λ i l. h (suc i) (omega arith)),
    )

-- ---- exchanging twice

exchange-twice : (x y : ℕ) (d : ℤ) → x < 2 → y < 2 → exchanged (eqb x 1) (exchanged (eqb y 1) d) ≡ exchanged (eqb (bit_xor x y) 1) d
exchange-twice x y d h k =
    digit-cases (λ (a : ℕ). exchanged (eqb a 1) (exchanged (eqb y 1) d) ≡ exchanged (eqb (bit_xor a y) 1) d)
    (digit-cases (λ (b : ℕ). exchanged (eqb 0 1) (exchanged (eqb b 1) d) ≡ exchanged (eqb (bit_xor 0 b) 1) d) refl refl y k)
    (digit-cases (λ (b : ℕ). exchanged (eqb 1 1) (exchanged (eqb b 1) d) ≡ exchanged (eqb (bit_xor 1 b) 1) d) refl (neg_ℤ-neg_ℤ d) y k) x h

pub signed_sum-exchanged : (h g : ℕ) (ds : List ℤ) → signed_sum h (exchanged_by g ds) ≡ signed_sum (bit_xor h g) ds
unfolding signed_sum exchanged_by
signed_sum-exchanged h g [] = refl
signed_sum-exchanged h g (d ∷ ds) =
    ap₂ ◌+ℤ◌ (exchange-twice (h % 2) (g % 2) d (mod-lt h (omega arith)) (mod-lt g (omega arith)) ∙ ap (λ (n : ℕ). exchanged (eqb n 1) d) (sym (xor_mod h g 1)))
    (signed_sum-exchanged (h / 2) (g / 2) ds ∙ ap (λ (n : ℕ). signed_sum n ds) (sym (xor_shr h g 1)))
