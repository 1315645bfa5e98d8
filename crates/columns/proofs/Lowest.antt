-- Laws of the lowest column of a set.
--   lowest-has, lowest-first      it is in the set, and no lower one is
--   lowest-le                     it is at most the number of columns
--   lowest-some                   a set with a column has a lowest one
--   has-equal_to                  a column's value equals v exactly where the column is among those
use Prim.Native.Nat.{ℕ, ◌≤◌, ◌<◌}
use native.Mathlib.Omega.{arith}
use mathlib.Core.Path.{◌≡◌}
use mathlib.Core.Bool.{true, false}
use mathlib.Core.List.{List, [], ◌∷◌}
use lib.ListN.{length, get_or}
use lib.Dec.{T}
use lib.Ieee.{Float, nan}
use Rattle.order.specs.Order.{equal}
use Rattle.order.specs.Counting.{count}
use Rattle.order.specs.Lists.{first_at}
use Rattle.order.proofs.Lists.{get_d_map}
use Rattle.order.proofs.Firsts.{first-le, first_passes, first-before}
use Rattle.columns.specs.Columns.{Columns, size, equal_to, lowest}
use Rattle.columns.proofs.Sets.{has}

pub lowest-has : (K : Columns) → lowest K < length K → T (has K (lowest K))
unfolding lowest
lowest-has K h = first_passes (λ b. b) K false h

pub lowest-first : (K : Columns) (j : ℕ) → j < lowest K → has K j ≡ false
unfolding lowest
lowest-first K j h = first-before (λ b. b) K false j h

pub lowest-le : (K : Columns) → lowest K ≤ length K
unfolding lowest
lowest-le K = first-le (λ b. b) K

pub lowest-some : (K : Columns) → 0 < size K → lowest K < length K
unfolding lowest first_at size count
lowest-some [] h = absurd (omega arith)
lowest-some (true ∷ K) h = omega arith
lowest-some (false ∷ K) h = omega (arith, lowest-some K (omega arith))

pub has-equal_to : (v : Float) (row : List Float) (j : ℕ) → j < length row → has (equal_to v row) j ≡ equal v (get_or row j nan)
unfolding equal_to
has-equal_to v row j h = get_d_map (λ x. equal v x) row j nan false h
