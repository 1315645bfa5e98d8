-- Lists that stand in tables and arrays. Definitions only.
--   tabulate n f      f 0, f 1 and so on to f (n - 1)
--   rows_of m n xs     the m rows of n members each that a list holds, row after row
--   joined rows       rows, one after the other
--   padded n d xs     xs with d in the places up to n
--   first_at p xs      the place of the first member that passes a test, from 0; the number of members where none does
use Rattle.std.specs.Prelude.{ℕ, zero, suc, ◌-◌, Bool, cond, List, [], ◌∷◌, ◌++◌, length, take, drop, replicate}

unfoldable pub tabulate : {A : Type 0} → ℕ → (ℕ → A) → List A
tabulate zero f = []
tabulate (suc n) f = f 0 ∷ tabulate n (λ i. f (suc i))

unfoldable pub rows_of : {A : Type 0} → ℕ → ℕ → List A → List (List A)
rows_of zero n xs = []
rows_of (suc m) n xs = take n xs ∷ rows_of m n (drop n xs)

unfoldable pub joined : {A : Type 0} → List (List A) → List A
joined [] = []
joined (r ∷ rs) = r ++ joined rs

abbrev pub padded : {A : Type 0} → ℕ → A → List A → List A
padded n d xs = xs ++ replicate (n - length xs) d

unfoldable pub first_at : {A : Type 0} → (A → Bool) → List A → ℕ
first_at p [] = 0
first_at p (x ∷ xs) = cond (p x) 0 (suc (first_at p xs))
