-- The worked examples hold, all of them: the checker computes what is asked, one example after the other.
use mathlib.Core.Path.{◌≡◌, refl}
use mathlib.Core.List.{List, [], ◌∷◌, map}
use lib.Ieee.{lt, le, of_int}
use Rattle.order.proofs.Lists.{both-same}
use Rattle.runs.specs.Examples.{⁺, ⁻, W, P, Answer, examples, bars}

infixr 5 ◌also◌
◌also◌ : {a b : Answer} {xs ys : List Answer} → a ≡ b → xs ≡ ys → (a ∷ xs) ≡ (b ∷ ys)
◌also◌ = both-same

done : ◌≡◌ {A = List Answer} [] []
done = refl

pub all-examples : map (λ x. x.asked) examples ≡ map (λ x. x.told) examples
unfolding examples lt le
all-examples = refl also refl also refl also refl also refl also refl also refl also refl also refl also refl also refl also refl also done

pub all-bars : map (λ x. x.asked) bars ≡ map (λ x. x.told) bars
unfolding bars lt le
all-bars = refl also refl also refl also refl also done

-- the tables as whole numbers: P row by row, and W's sums, row g exchanging the pairs whose bit of g is 1
pub p-values : P ≡ ⁺ 9 ∷ ⁺ 8 ∷ ⁺ 3 ∷ ⁺ 4 ∷ ⁺ 1 ∷ ⁺ 2 ∷ ⁺ 0 ∷ ⁺ 4 ∷ ⁺ 5 ∷ ⁺ 1 ∷ ⁺ 0 ∷ ⁺ 1 ∷ []
unfolding of_int
p-values = refl

pub w-values : W ≡ ⁺ 12 ∷ ⁺ 2 ∷ ⁺ 2 ∷ ⁻ 2 ∷ ⁺ 6 ∷ ⁺ 4 ∷ ⁻ 4 ∷ ⁺ 0 ∷ ⁺ 4 ∷ ⁺ 0 ∷ ⁻ 6 ∷ ⁻ 4 ∷ ⁻ 2 ∷ ⁺ 2 ∷ ⁻ 12 ∷ ⁻ 2 ∷ []
unfolding of_int
w-values = refl
