-- Numbers and lines as text, in ASCII. Definitions only.
--   digit d           a digit
--   printed n c       the last n decimal digits of c, the most significant first
--   decimal_up_to f n  a number with no leading zeros, if it has at most f digits
--   decimal n         a number below 10^20 with no leading zeros; zero is 0
--   decimal_int z     a whole number: a minus sign before a negative one
--   cents c           the whole number of cents of a critical value
--   after_first ws    the words after a line's first, and the line end
--   line w ws         words as a line: a space before each but the first, and a line end
--   lines_to n f      the lines f 0 to f (n - 1), one after the other
--   refused_text n    the text of a refusal
use Rattle.std.specs.Prelude.{ℕ, zero, suc, ◌+◌, ◌/◌, ◌%◌, cond, List, [], ◌∷◌, ◌++◌, ltb, ℤ, pos, negsuc, Float}
use Rattle.std.specs.Float.Ieee.{to_signed}
use Rattle.text.specs.Ascii.{ascii}

abbrev pub digit : ℕ → List ℕ
digit d = (48 + d) ∷ []

unfoldable pub printed : ℕ → ℕ → List ℕ
printed zero c = []
printed (suc n) c = printed n (c / 10) ++ digit (c % 10)

unfoldable pub decimal_up_to : ℕ → ℕ → List ℕ
decimal_up_to zero n = []
decimal_up_to (suc f) n = cond (ltb n 10) [] (decimal_up_to f (n / 10)) ++ digit (n % 10)

-- every number of 64 bits has at most 20 digits
abbrev pub decimal : ℕ → List ℕ
decimal n = decimal_up_to 20 n

abbrev pub decimal_int : ℤ → List ℕ
decimal_int (pos n) = decimal n
decimal_int (negsuc n) = ascii "-" ++ decimal (suc n)

-- a critical value of a trial is a whole number of cents, and nothing is cut off (`cents-exact`)
abbrev pub cents : Float → ℤ
cents c = to_signed 63 c

abbrev pub after_first : List (List ℕ) → List ℕ
after_first [] = ascii "\n"
after_first (w ∷ ws) = ascii " " ++ (w ++ after_first ws)

abbrev pub line : List ℕ → List (List ℕ) → List ℕ
line w ws = w ++ after_first ws

unfoldable pub lines_to : ℕ → (ℕ → List ℕ) → List ℕ
lines_to zero f = []
lines_to (suc n) f = lines_to n f ++ f n

abbrev pub refused_text : ℕ → List ℕ
refused_text n = line (ascii "refused") (decimal n ∷ [])
