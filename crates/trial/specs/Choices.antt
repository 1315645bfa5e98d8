-- Shops without partners: which of them are called treated. Definitions only.
--   Choice                   a choice of shops: a Bool for each shop, true where it is chosen
--   choices shops treated    all choices of so many shops, in ascending order of their lists
--   choice_at shops treated g   the choice of row g
--   shops_of i c             the list of a choice: the numbers of the chosen shops, where the first shop has the number i
--   rest c                   the shops that a choice leaves
--   sum_of xs                 the sum of figures
--   contrast shops treated c xs     (shops - treated) times the chosen sum, less treated times the remaining sum
--   chosen_first c xs        the figures of the chosen shops, then those of the rest, both in ascending order
use Rattle.std.specs.Prelude.{ℕ, suc, ◌-◌, true, false, not, List, [], ◌∷◌, ◌++◌, map, get_or, ℤ, pos, ◌+ℤ◌, ◌-ℤ◌, ◌*ℤ◌}
use Rattle.columns.specs.Columns.{Columns, every_column, within, choose}

abbrev pub Choice : Type 0
Choice = Columns

unfoldable pub choices : ℕ → ℕ → List Choice
unfolding choose
choices shops treated = choose treated (every_column shops)

abbrev pub choice_at : ℕ → ℕ → ℕ → Choice
choice_at shops treated g = get_or (choices shops treated) g []

unfoldable pub shops_of : ℕ → Choice → List ℕ
shops_of i [] = []
shops_of i (true ∷ c) = i ∷ shops_of (suc i) c
shops_of i (false ∷ c) = shops_of (suc i) c

abbrev pub rest : Choice → Choice
rest c = map not c

unfoldable pub sum_of : List ℤ → ℤ
sum_of [] = pos 0
sum_of (x ∷ xs) = x +ℤ sum_of xs

unfoldable pub contrast : ℕ → ℕ → Choice → List ℤ → ℤ
unfolding sum_of within
contrast shops treated c xs = pos (shops - treated) *ℤ sum_of (within c xs) -ℤ pos treated *ℤ sum_of (within (rest c) xs)

unfoldable pub chosen_first : {A : Type 0} → Choice → List A → List A
unfolding within
chosen_first c xs = within c xs ++ within (rest c) xs
