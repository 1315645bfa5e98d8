-- Laws of a word's fields: a word is read back as the values that it was made of, and made again of the values that are read. Those of shapes are in Shapes.
--   level-kind, level-a .. end-count, difference-back   the values of a word that was made
--   level-back                                   the same of a whole level
--   level-again .. difference-again              a word made of the values that are read
use Prim.Native.Nat.{ℕ, ◌+◌, ◌-◌, ◌*◌, ◌%◌, ◌≤◌, ◌<◌}
use native.Mathlib.Omega.{arith}
use mathlib.Core.Path.{◌≡◌, refl, ap, ◌∙◌}
use mathlib.Core.Bool.{Bool, true, false, cond}
use lib.Dec.{ltb}
use lib.IntN.{ℤ, pos, negsuc, nat_abs}
use borrow.Author.Tests.{lt-ltb, le-ltb}
use Rattle.limits.specs.Limits.{digits_most, difference_most, level_most}
use Rattle.words.specs.Words.{kind_of, a_of, b_of, digits_of, code_of, level_in, signed, difference_of, count_of, level_word, offer_word, bits_of, difference_word, end_word}

-- ---- the values of a word that was made

module _ (a b : ℕ) (ha : a ≤ level_most) (hb : b ≤ level_most) where
  pub level-kind : kind_of (level_word a b) ≡ 1
  level-kind = omega arith

  pub level-a : a_of (level_word a b) ≡ a
  level-a = omega arith

  pub level-b : b_of (level_word a b) ≡ b
  level-b = omega arith

pub level-back : (a b : ℕ) → a ≤ level_most → b ≤ level_most → level_in (level_word a b) ≡ record { a = a; b = b }
level-back a b ha hb = rw (level-a a b ha hb, level-b a b ha hb)

module _ (c d : ℕ) (hc : c < 16777216) (hd : d ≤ digits_most) where
  pub offer-kind : kind_of (offer_word c d) ≡ 3
  offer-kind = omega arith

  pub offer-digits : digits_of (offer_word c d) ≡ d
  offer-digits = omega arith

  pub offer-code : code_of (offer_word c d) ≡ c
  offer-code = omega arith

pub end-kind : (n : ℕ) → n < 268435456 → kind_of (end_word n) ≡ 15
end-kind n h = omega arith

pub end-count : (n : ℕ) → n < 268435456 → count_of (end_word n) ≡ n
end-count n h = omega arith

pub bits_small : (d : ℤ) → nat_abs d ≤ difference_most → bits_of d < 268435456
unfolding bits_of
bits_small (pos n) h = omega arith
bits_small (negsuc n) h = omega arith

pub difference-kind : (d : ℤ) → nat_abs d ≤ difference_most → kind_of (difference_word d) ≡ 4
difference-kind d h = omega (arith, bits_small d h)

signed-bits : (d : ℤ) → nat_abs d ≤ difference_most → signed (bits_of d) ≡ d
unfolding signed bits_of
signed-bits (pos n) h = simp (lt-ltb n 134217728 (omega arith))
signed-bits (negsuc n) h = let e : 268435455 - (268435455 - n) ≡ n = omega arith in simp (le-ltb (268435455 - n) 134217728 (omega arith), e)

pub difference-back : (d : ℤ) → nat_abs d ≤ difference_most → difference_of (difference_word d) ≡ d
difference-back d h = let e : (4 * 268435456 + bits_of d) % 268435456 ≡ bits_of d = omega (arith, bits_small d h) in ap signed e ∙ signed-bits d h

-- ---- a word made of the values that are read

pub level-again : (w : ℕ) → kind_of w ≡ 1 → level_word (a_of w) (b_of w) ≡ w
level-again w h = omega arith

pub offer-again : (w : ℕ) → kind_of w ≡ 3 → offer_word (code_of w) (digits_of w) ≡ w
offer-again w h = omega arith

pub end-again : (w n : ℕ) → kind_of w ≡ 15 → count_of w ≡ n → end_word n ≡ w
end-again w n h c = omega arith

bits-signed : (v : ℕ) → v < 268435456 → bits_of (signed v) ≡ v
unfolding signed bits_of
bits-signed v h = go (ltb v 134217728) refl
  where
    go : (t : Bool) → ltb v 134217728 ≡ t → bits_of (cond t (pos v) (negsuc (268435455 - v))) ≡ v
    go true e = refl
    go false e = omega arith

pub difference-again : (w : ℕ) → kind_of w ≡ 4 → difference_word (difference_of w) ≡ w
difference-again w h = omega (arith, bits-signed (w % 268435456) (omega arith))
