-- The examples of balanced tables hold, all of them: the checker computes what is asked, one example after the other.
use mathlib.Core.Path.{◌≡◌, refl}
use mathlib.Core.List.{List, [], ◌∷◌, map}
use lib.Ieee.{of_int, lt, le}
use Rattle.order.proofs.Lists.{both-same}
use Rattle.runs.specs.Examples.{Answer}
use Rattle.tablebalance.specs.Answers.{balanced_run}
use Rattle.tablebalance.specs.Examples.{examples}

infixr 5 ◌also◌
◌also◌ : {a b : List Answer} {xs ys : List (List Answer)} → a ≡ b → xs ≡ ys → (a ∷ xs) ≡ (b ∷ ys)
◌also◌ = both-same

done : ◌≡◌ {A = List (List Answer)} [] []
done = refl

pub all-examples : map (λ x. x.asked) examples ≡ map (λ x. x.told) examples
unfolding examples balanced_run of_int lt le
all-examples = refl also refl also refl also refl also refl also done
