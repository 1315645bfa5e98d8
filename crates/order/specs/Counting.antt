-- Counting. Definitions only.
--   bit b            1 for true, 0 for false
--   count p xs       how many members of a list pass a test
--   count_below n p  how many numbers below n pass a test
--   all p xs         every member passes the test
use Rattle.std.specs.Prelude.{ℕ, zero, suc, ◌+◌, Bool, true, false, ◌&&◌, List, [], ◌∷◌}

abbrev pub bit : Bool → ℕ
bit true = 1
bit false = 0

unfoldable pub count : {A : Type 0} → (A → Bool) → List A → ℕ
count p [] = 0
count p (x ∷ xs) = bit (p x) + count p xs

unfoldable pub count_below : ℕ → (ℕ → Bool) → ℕ
count_below zero p = 0
count_below (suc n) p = count_below n p + bit (p n)

unfoldable pub all : {A : Type 0} → (A → Bool) → List A → Bool
all p [] = true
all p (x ∷ xs) = p x && all p xs
