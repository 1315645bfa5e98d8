-- Selection by rank, equal values counted each. Definitions only.
--   first p xs          the first member that passes a test; plus zero where none does
--   from_top k xs v     v ranks k-th from the top: fewer than k members are larger, and at least k are no smaller
--   from_bottom m xs v  v ranks m-th from the bottom: fewer than m members are smaller, and at least m are no larger
--   kth_largest k xs    the k-th largest member, k from 1 to the number of members, and plus zero for either zero
--   mth_smallest m xs   the m-th smallest member, m from 1 to the number of members, and plus zero for either zero
use Rattle.std.specs.Prelude.{ℕ, Bool, cond, ◌&&◌, List, [], ◌∷◌, ltb, leb, Float}
use Rattle.order.specs.Order.{smaller, at_most, plus_zero, with_plus_zero}
use Rattle.order.specs.Counting.{count}

unfoldable pub first : (Float → Bool) → List Float → Float
first p [] = plus_zero
first p (x ∷ xs) = cond (p x) x (first p xs)

unfoldable pub from_top : ℕ → List Float → Float → Bool
unfolding count
from_top k xs v = ltb (count (λ x. smaller v x) xs) k && leb k (count (λ x. at_most v x) xs)

unfoldable pub from_bottom : ℕ → List Float → Float → Bool
unfolding count
from_bottom m xs v = ltb (count (λ x. smaller x v) xs) m && leb m (count (λ x. at_most x v) xs)

unfoldable pub kth_largest : ℕ → List Float → Float
unfolding first from_top with_plus_zero
kth_largest k xs = with_plus_zero (first (from_top k xs) xs)

unfoldable pub mth_smallest : ℕ → List Float → Float
unfolding first from_bottom with_plus_zero
mth_smallest m xs = with_plus_zero (first (from_bottom m xs) xs)
