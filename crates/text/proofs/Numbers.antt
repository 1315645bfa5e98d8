-- Laws of numbers as text.
--   decimal-is, decimal_int-is           what std writes of a number is its text
--   decimal-digit                        the text of a digit
--   printed-none, printed-more           no digit is left; the last digit after the others
--   length_printed                       as many digits as are asked for
use Prim.Native.Nat.{ℕ, zero, suc, ◌-◌, ◌/◌, ◌%◌, ◌<◌, ◌^◌}
use native.Mathlib.Omega.{arith}
use mathlib.Core.Path.{◌≡◌, refl, sym, ap, ◌∙◌}
use mathlib.Core.List.{[], ◌∷◌, ◌++◌}
use lib.ListN.{length, length-append}
use lib.IntN.{ℤ, pos, negsuc, nat_abs}
use borrow.Author.Tests.{lt-ltb, le-ltb}
use Rattle.std.specs.Fmt as fmt
use Rattle.std.proofs.lemmas.Fmt.{AppendsLastDigit, decimal_from_appends, length-decimal-le}
use Rattle.text.specs.Text.{digit, printed, decimal_up_to, decimal, decimal_int}

appends : AppendsLastDigit decimal_up_to
unfolding decimal_up_to
appends = record {
  one = λ k n h. let e : n % 10 ≡ n = omega arith in rw (lt-ltb n 10 h, e);
  more = λ k n h. rw (le-ltb n 10 h);
}

pub decimal-is : (n : ℕ) → n < 2 ^ 64 → fmt.decimal n ≡ decimal n
decimal-is n h = sym (decimal_from_appends decimal_up_to appends 20 n h (length-decimal-le 20 n (omega arith) (omega arith) h))

pub decimal_int-is : (z : ℤ) → nat_abs z < 2 ^ 63 → fmt.signed_decimal z ≡ decimal_int z
decimal_int-is (pos n) h = decimal-is n (omega arith)
decimal_int-is (negsuc n) h = ap (λ ds. 45 ∷ ds) (decimal-is (suc n) (omega arith))

pub decimal-digit : (n : ℕ) → n < 10 → decimal n ≡ digit n
decimal-digit n h = appends.one 19 n h

pub printed-none : (n c : ℕ) → n ≡ 0 → printed n c ≡ []
unfolding printed
printed-none n c e = ap (λ (m : ℕ). printed m c) e

pub printed-more : (n c : ℕ) → 0 < n → printed n c ≡ printed (n - 1) (c / 10) ++ digit (c % 10)
unfolding printed
printed-more zero c h = absurd (omega arith)
printed-more (suc n) c h = let e : n ≡ suc n - 1 = omega arith in ap (λ (m : ℕ). printed m (c / 10) ++ digit (c % 10)) e

pub length_printed : (n c : ℕ) → length (printed n c) ≡ n
unfolding printed
length_printed zero c = refl
length_printed (suc n) c = length-append (printed n (c / 10)) (digit (c % 10)) ∙ omega (arith, length_printed n (c / 10))
