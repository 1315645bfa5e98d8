-- Laws of words that are stored in a buffer, one after the other.
--   word_stored            four bytes that are stored are a word
--   sets-append, sets-all  one part after another; from the first place on
--   figure-small, figure-word     a figure that is read from its bits
--   stored, store-turn, store-end  a loop that stores the words f 0, f 1 and so on from the place `at` on
use Prim.Native.Nat.{ℕ, suc, ◌+◌, ◌*◌, ◌^◌, ◌≤◌, ◌<◌}
use native.Mathlib.Omega.{arith}
use mathlib.Core.Path.{◌≡◌, refl, sym, ap, ap₂, ◌∙◌}
use mathlib.Core.List.{List, [], ◌∷◌, ◌++◌, append-nil}
use lib.ListN.{length, set, take, drop}
use lib.Seq.{sets, sets-eq, length-sets}
use lib.IntN.{ℤ, nat_abs}
use lib.Signed.{mag}
use mir.Syntax.{w32}
use mir.Val.{to_z, of_z}
use mir.Facts.{to_z-of_z}
use Rattle.order.specs.Lists.{tabulate}
use Rattle.order.proofs.Lists.{tabulate-length, tabulate-more}
use Rattle.refusals.specs.Buffers.{written}
use Rattle.words.specs.Words.{word_bytes, bytes_of, difference_word}
use Rattle.words.proofs.Words.{bytes_of-length, bytes_of-append}

pub word_stored : (out after : List ℕ) (at w : ℕ) → at + 4 ≤ length out → after ≡ take at out ++ word_bytes w ++ drop (at + 4) out → after ≡ sets out at (word_bytes w)
word_stored out after at w h e =
    let n : at + 4 ≡ at + length (word_bytes w) = omega arith in
    e ∙ ap (λ (k : ℕ). take at out ++ word_bytes w ++ drop k out) n ∙ sym (sets-eq (word_bytes w) out at (omega arith))

pub sets-append : (buf xs ys : List ℕ) (i : ℕ) → sets (sets buf i xs) (i + length xs) ys ≡ sets buf i (xs ++ ys)
sets-append buf [] ys i = let e : i + 0 ≡ i = omega arith in ap (λ (k : ℕ). sets buf k ys) e
sets-append buf (x ∷ xs) ys i = let e : i + suc (length xs) ≡ suc i + length xs = omega arith in ap (λ (k : ℕ). sets (sets (set buf i x) (suc i) xs) k ys) e ∙ sets-append (set buf i x) xs ys (suc i)

pub sets-all : (buf xs : List ℕ) → length xs ≤ length buf → sets buf 0 xs ≡ written xs buf
sets-all buf xs h = let e : 0 + length xs ≡ length xs = omega arith in sets-eq xs buf 0 (omega arith) ∙ ap (λ (k : ℕ). xs ++ drop k buf) e

-- a figure that is read from its bits
module _ (x : ℤ) (fits : mag x < 2 ^ 31) where
  kept : to_z w32 (of_z w32 x) ≡ x
  kept = to_z-of_z {w = w32} (record { sfits = fits })

  pub figure-small : (m : ℕ) → nat_abs x ≤ m → nat_abs (to_z w32 (of_z w32 x)) ≤ m
  figure-small m h = rw kept h

  pub figure-word : (w : ℕ) → w ≡ difference_word (to_z w32 (of_z w32 x)) → w ≡ difference_word x
  figure-word w e = e ∙ ap difference_word kept

module _ (f : ℕ → ℕ) (buf : List ℕ) (at : ℕ) where
  abbrev pub stored : ℕ → List ℕ
  stored i = sets buf (4 * at) (bytes_of (tabulate i f))

  pub store-start : buf ≡ stored 0
  unfolding tabulate bytes_of
  store-start = refl

  pub store-turn : (i w : ℕ) (out after : List ℕ) → out ≡ stored i → w ≡ f i → after ≡ sets out (4 * (at + i)) (word_bytes w) → after ≡ stored (i + 1)
  unfolding bytes_of
  store-turn i w out after g e s =
      let n : 4 * (at + i) ≡ 4 * at + length (bytes_of (tabulate i f)) = omega (arith, bytes_of-length (tabulate i f), tabulate-length i f) in
      s ∙ ap₂ (λ (o : List ℕ) (v : ℕ). sets o (4 * (at + i)) (word_bytes v)) g e
      ∙ ap (λ (k : ℕ). sets (stored i) k (word_bytes (f i))) n
      ∙ sets-append buf (bytes_of (tabulate i f)) (word_bytes (f i)) (4 * at)
      ∙ ap (sets buf (4 * at)) (ap (λ (l : List ℕ). bytes_of (tabulate i f) ++ l) (sym (append-nil (word_bytes (f i)))) ∙ sym (bytes_of-append (tabulate i f) (f i ∷ [])) ∙ ap bytes_of (sym (tabulate-more i f)))

  pub store_length : (i : ℕ) (out : List ℕ) → out ≡ stored i → length out ≡ length buf
  store_length i out g = ap length g ∙ length-sets buf (4 * at) (bytes_of (tabulate i f))

  pub store-end : (i n : ℕ) (out : List ℕ) → i ≤ n → n ≤ i → out ≡ stored i → out ≡ stored n
  store-end i n out h k g = let e : i ≡ n = omega arith in g ∙ ap stored e
