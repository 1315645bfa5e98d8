-- How long texts can be.
--   decimal-most, printed-most, int-most     numbers
--   Most ws b            the words after a line's first, with its end, take at most b bytes
--   line-end, field, number     the end, one word more, one number more
--   line-most            a line
--   numbered-most        a word, a number and a line end
--   lines-most           lines, one after the other
--   answer-most          a text that is answered, or a refusal
use Prim.Native.Nat.{ℕ, zero, suc, ◌+◌, ◌*◌, ◌/◌, ◌%◌, ◌≤◌, ◌<◌}
use native.Mathlib.Omega.{arith}
use native.Mathlib.Nat.{suc-mul}
use mathlib.Core.Path.{◌≡◌, refl}
use mathlib.Core.Bool.{Bool, true, false, cond}
use mathlib.Core.List.{List, [], ◌∷◌, ◌++◌}
use lib.ListN.{length, length-append}
use lib.Dec.{ltb}
use lib.IntN.{ℤ, pos, negsuc}
use Rattle.refusals.specs.Answers.{Checks, answer, first_refusal, number as refusal_number}
use Rattle.text.specs.Ascii.{ascii}
use Rattle.text.specs.Text.{digit, printed, decimal_up_to, decimal, decimal_int, after_first, line, lines_to, refused_text}
use Rattle.text.proofs.Numbers.{length_printed}

-- ---- numbers

decimal-most : (f n : ℕ) → length (decimal_up_to f n) ≤ f
unfolding decimal_up_to
decimal-most zero n = omega arith
decimal-most (suc f) n = go (ltb n 10) (decimal-most f (n / 10))
  where
    go : (b : Bool) → length (decimal_up_to f (n / 10)) ≤ f → length (cond b [] (decimal_up_to f (n / 10)) ++ digit (n % 10)) ≤ suc f
    go true h = omega arith
    go false h = omega (arith, length-append (decimal_up_to f (n / 10)) (digit (n % 10)))

pub printed-most : (d c : ℕ) → length (printed d c) ≤ d
printed-most d c = omega (arith, length_printed d c)

pub int-most : (z : ℤ) → length (decimal_int z) ≤ 21
int-most (pos n) = omega (arith, decimal-most 20 n)
int-most (negsuc n) = omega (arith, decimal-most 20 (suc n))

-- ---- lines

-- the words after a line's first, with its end, take at most b bytes
pub record Most (ws : List (List ℕ)) (b : ℕ) : Type 0 where
  pub most : length (after_first ws) ≤ b

pub line-end : Most [] 1
line-end = record { most = omega arith }

pub field : {ws : List (List ℕ)} {b : ℕ} (w : List ℕ) (a : ℕ) → length w ≤ a → Most ws b → Most (w ∷ ws) (1 + a + b)
field {ws = ws} w a h k = record { most = omega (arith, length-append w (after_first ws), k.most) }

pub number : {ws : List (List ℕ)} {b : ℕ} (n : ℕ) → Most ws b → Most (decimal n ∷ ws) (1 + 20 + b)
number n k = field (decimal n) 20 (decimal-most 20 n) k

pub line-most : {ws : List (List ℕ)} {b : ℕ} (w : List ℕ) (a : ℕ) → length w ≤ a → Most ws b → length (line w ws) ≤ a + b
line-most {ws = ws} w a h k = omega (arith, length-append w (after_first ws), k.most)

pub numbered-most : (w : List ℕ) (n a : ℕ) → length w ≤ a → length (line w (decimal n ∷ [])) ≤ a + 22
numbered-most w n a h = line-most w a h (number n line-end)

pub lines-most : (n m : ℕ) (f : ℕ → List ℕ) → ((i : ℕ) → i < n → length (f i) ≤ m) → length (lines_to n f) ≤ n * m
unfolding lines_to
lines-most zero m f h = omega arith
lines-most (suc n) m f h = omega (arith, length-append (lines_to n f) (f n), lines-most n m f (λ i l. h i (omega arith)), h n (omega arith), suc-mul n m)

-- ---- a text, or a refusal

pub answer-most : (cs : Checks) (ys : List ℕ) (most : ℕ) → 29 ≤ most → (first_refusal cs ≡ 0 → length ys ≤ most) → length (answer cs ys refused_text) ≤ most
unfolding answer first_refusal
answer-most [] ys most l h = h refl
answer-most (c ∷ cs) ys most l h = go c.0 (answer-most cs ys most l) h
  where
    go : (b : Bool) → ((first_refusal cs ≡ 0 → length ys ≤ most) → length (answer cs ys refused_text) ≤ most) → (cond b (refusal_number c.1) (first_refusal cs) ≡ 0 → length ys ≤ most)
        → length (cond b (refused_text (refusal_number c.1)) (answer cs ys refused_text)) ≤ most
    go true on h = omega (arith, numbered-most (ascii "refused") (refusal_number c.1) 7 (omega arith))
    go false on h = on h
