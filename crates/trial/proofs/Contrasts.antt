-- Laws of contrasts: how large they are.
--   abs-times                        the magnitude of a multiple
--   contrast-small                   a contrast is a whole number up to 2^53
use Prim.Native.Nat.{ℕ, suc, ◌-◌, ◌*◌, ◌^◌, ◌≤◌}
use native.Mathlib.Omega.{arith}
use native.Mathlib.Nat.{mul-le-mul}
use mathlib.Core.Path.{◌≡◌, refl}
use mathlib.Core.Bool.{true, false}
use mathlib.Core.List.{List, [], ◌∷◌}
use lib.ListN.{length}
use lib.IntN.{ℤ, pos, negsuc, nat_abs, neg_ℤ, ◌*ℤ◌}
use Rattle.limits.specs.Limits.{difference_most, shops_most}
use Rattle.columns.specs.Columns.{within}
use Rattle.trial.specs.Choices.{Choice, rest, sum_of, contrast}
use Rattle.trial.specs.Internal.{Ranged}
use Rattle.trial.proofs.Sums.{abs-add, abs_neg}

-- one of three shops: 2 × 7 - 1 × (3 + 5)
one_of_three : contrast 3 1 (true ∷ false ∷ false ∷ []) (pos 7 ∷ pos 3 ∷ pos 5 ∷ []) ≡ pos 6
unfolding contrast
one_of_three = refl

pub abs-times : (m : ℕ) (z : ℤ) → nat_abs (pos m *ℤ z) ≡ m * nat_abs z
abs-times m (pos n) = refl
abs-times m (negsuc n) = abs_neg (pos (m * suc n))

-- the figures of a choice add up to no more than all
chosen-small : (c : Choice) (xs : List ℤ) → Ranged (length xs) xs → nat_abs (sum_of (within c xs)) ≤ length xs * difference_most
unfolding sum_of within
chosen-small [] xs h = omega arith
chosen-small (b ∷ c) [] h = omega arith
chosen-small (true ∷ c) (x ∷ xs) h = omega (arith, abs-add x (sum_of (within c xs)), h 0 (omega arith), chosen-small c xs (λ i l. h (suc i) (omega arith)))
chosen-small (false ∷ c) (x ∷ xs) h = omega (arith, chosen-small c xs (λ i l. h (suc i) (omega arith)))

times-small : (m : ℕ) (z : ℤ) (s : ℕ) → m ≤ shops_most → nat_abs z ≤ s → nat_abs (pos m *ℤ z) ≤ shops_most * s
times-small m z s h k = omega (arith, abs-times m z, mul-le-mul h k)

pub contrast-small : (n t : ℕ) (c : Choice) (xs : List ℤ) → n ≤ shops_most → t ≤ n → length xs ≤ n → Ranged (length xs) xs → nat_abs (contrast n t c xs) ≤ 2 ^ 53
unfolding contrast
contrast-small n t c xs h k l r =
    omega (
      arith,
      abs-add (pos (n - t) *ℤ sum_of (within c xs)) (neg_ℤ (pos t *ℤ sum_of (within (rest c) xs))),
      abs_neg (pos t *ℤ sum_of (within (rest c) xs)),
      times-small (n - t) (sum_of (within c xs)) (length xs * difference_most) (omega arith) (chosen-small c xs r),
      times-small t (sum_of (within (rest c) xs)) (length xs * difference_most) (omega arith) (chosen-small (rest c) xs r),
    )
