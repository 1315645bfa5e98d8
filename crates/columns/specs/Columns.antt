-- Sets of columns (document 01: sets of offers). A set has a Bool for each column, true where the column is in it. Definitions only.
--   Columns         the type of these sets
--   every_column n  all of n columns
--   size K          how many columns K has
--   K ∪ L, K ∩ L    columns of either, of both
--   K ∖ L           columns of K that L has not
--   within K row    the values of a row at the columns of K
--   over v row      the columns whose value is larger than v
--   reached v row   the columns whose value is at least v
--   equal_to v row  the columns whose value equals v
--   lowest K        the lowest column of K, from 0; the number of all columns where it has none
--   choose j R      the sets of j columns of R: one column and j - 1 later ones, in the order of the walk
--   in_set s j       bit j of the mask s is 1
--   columns_of n s  the set of those of n columns whose bit is 1 in the mask s
--   mask_of K        the mask of a set
--   full_mask n     the mask of all n columns
use Rattle.std.specs.Prelude.{ℕ, zero, suc, ◌+◌, ◌-◌, ◌*◌, ◌/◌, ◌%◌, ◌^◌, Bool, true, false, not, cond, ◌&&◌, ◌||◌, replicate, eqb, Float}
use mathlib.Core.List.{List, [], ◌∷◌, ◌++◌, map, zip_with}
use Rattle.order.specs.Order.{smaller, at_most, equal}
use Rattle.order.specs.Counting.{bit, count}
use Rattle.order.specs.Lists.{first_at}

infixl 70 ◌∩◌
infixl 65 ◌∪◌
infixl 65 ◌∖◌
abbrev pub Columns : Type 0
Columns = List Bool

abbrev pub every_column : ℕ → Columns
every_column n = replicate n true

unfoldable pub size : Columns → ℕ
unfolding count
size K = count (λ b. b) K

unfoldable pub ◌∪◌ : Columns → Columns → Columns
unfolding zip_with
K ∪ L = zip_with ◌||◌ K L

unfoldable pub ◌∩◌ : Columns → Columns → Columns
unfolding zip_with
K ∩ L = zip_with ◌&&◌ K L

unfoldable pub ◌∖◌ : Columns → Columns → Columns
unfolding zip_with
K ∖ L = zip_with (λ a b. a && not b) K L

unfoldable pub within : {A : Type 0} → Columns → List A → List A
within [] row = []
within (b ∷ K) [] = []
within (b ∷ K) (x ∷ row) = cond b (x ∷ within K row) (within K row)

unfoldable pub over : Float → List Float → Columns
over v row = map (λ x. smaller v x) row

unfoldable pub reached : Float → List Float → Columns
reached v row = map (λ x. at_most v x) row

unfoldable pub equal_to : Float → List Float → Columns
equal_to v row = map (λ x. equal v x) row

unfoldable pub choose : ℕ → Columns → List Columns
choose zero R = map (λ _. false) R ∷ []
choose (suc j) [] = []
choose (suc j) (true ∷ R) = map (λ I. true ∷ I) (choose j R) ++ map (λ I. false ∷ I) (choose (suc j) R)
choose (suc j) (false ∷ R) = map (λ I. false ∷ I) (choose (suc j) R)

unfoldable pub lowest : Columns → ℕ
unfolding first_at
lowest K = first_at (λ b. b) K

-- ---- masks

abbrev pub in_set : ℕ → ℕ → Bool
in_set s j = eqb (s / 2 ^ j % 2) 1

unfoldable pub columns_of : ℕ → ℕ → Columns
columns_of zero s = []
columns_of (suc n) s = eqb (s % 2) 1 ∷ columns_of n (s / 2)

unfoldable pub mask_of : Columns → ℕ
mask_of [] = 0
mask_of (b ∷ K) = bit b + 2 * mask_of K

abbrev pub full_mask : ℕ → ℕ
full_mask n = 2 ^ n - 1
