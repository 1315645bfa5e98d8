-- Laws of lines, one after the other, for a loop that puts them after a text s: b is what is there after i of them.
--   lines_none       no line yet
--   lines_more       one line more
--   lines_room       where all n lines have room, the next one has
--   lines-within     the lines up to one of them are no longer than all
use Prim.Native.Nat.{ℕ, zero, suc, ◌+◌, ◌≤◌, ◌<◌}
use native.Mathlib.Omega.{arith}
use native.Mathlib.Numerals.{add-one}
use mathlib.Core.Path.{◌≡◌, refl, sym, ap, ◌∙◌}
use mathlib.Core.Bool.{Bool, true, false}
use mathlib.Core.List.{List, ◌++◌, append_assoc, append-nil}
use lib.ListN.{length, length-append}
use lib.Dec.{ltb}
use borrow.Author.Tests.{ltb-true, ltb-false}
use Rattle.text.specs.Text.{lines_to}

lines-within : (i n : ℕ) (f : ℕ → List ℕ) → i < n → length (lines_to i f) + length (f i) ≤ length (lines_to n f)
unfolding lines_to
lines-within i zero f h = absurd (omega arith)
lines-within i (suc n) f h = go (ltb i n) (λ e. lines-within i n f (ltb-true i n e)) (ltb-false i n)
  where
    go : (b : Bool) → (b ≡ true → length (lines_to i f) + length (f i) ≤ length (lines_to n f)) → (b ≡ false → n ≤ i) → length (lines_to i f) + length (f i) ≤ length (lines_to n f ++ f n)
    go true before last = omega (arith, length-append (lines_to n f) (f n), before refl)
    go false before last = let e : i ≡ n = omega (arith, last refl) in rw e (omega (arith, length-append (lines_to n f) (f n)))

module _ (f : ℕ → List ℕ) (s : List ℕ) where
  pub lines_none : s ≡ s ++ lines_to 0 f
  unfolding lines_to
  lines_none = sym (append-nil s)

  module _ (i : ℕ) (b : List ℕ) (w : b ≡ s ++ lines_to i f) where
    pub lines_more : (c : List ℕ) → c ≡ b ++ f i → c ≡ s ++ lines_to (i + 1) f
    unfolding lines_to
    lines_more c e = e ∙ ap (λ l. l ++ f i) w ∙ append_assoc s (lines_to i f) (f i) ∙ ap (λ m. s ++ lines_to m f) (sym (add-one i))

    pub lines_room : (n most : ℕ) → i < n → length s + length (lines_to n f) ≤ most → length b + length (f i) ≤ most
    lines_room n most h r = omega (arith, simp length-append at (ap length w), lines-within i n f h)
