-- Laws of words and bytes: the two directions undo each other.
--   words-bytes, bytes-words    words written and read back; bytes read and written back
--   words_of-at, words_of-none  the word at a place, and where it is missing
use Prim.Native.Nat.{ℕ, zero, suc, ◌+◌, ◌*◌, ◌/◌, ◌%◌, ◌≤◌, ◌<◌}
use native.Mathlib.Omega.{arith}
use native.Mathlib.Nat.{div-div-eq-div-mul}
use mathlib.Core.Path.{◌≡◌, refl, sym, ap, ap₂, ◌∙◌}
use mathlib.Core.List.{List, [], ◌∷◌, ◌++◌}
use lib.ListN.{length, get_or, get_or-eq_default}
use lib.Dec.{ltb, ltb→lt}
use Rattle.order.specs.Counting.{all}
use Rattle.order.proofs.Booleans.{and_left, and_right}
use Rattle.words.specs.Words.{Bytes, words_of, word_bytes, bytes_of, word}

pub words-bytes : (ws : List ℕ) → words_of (bytes_of ws) ≡ ws
unfolding words_of bytes_of
words-bytes [] = refl
words-bytes (w ∷ ws) = ap₂ (λ (x : ℕ) (xs : List ℕ). x ∷ xs) whole (words-bytes ws)
  where
    whole : w % 256 + 256 * (w / 256 % 256) + 65536 * (w / 65536 % 256) + 16777216 * (w / 16777216) ≡ w
    whole = omega arith

low_byte : (w b q : ℕ) → b < 256 → w ≡ b + 256 * q → w % 256 ≡ b
low_byte w b q h e = omega arith

high-bytes : (w b q : ℕ) → b < 256 → w ≡ b + 256 * q → w / 256 ≡ q
high-bytes w b q h e = omega arith

four_bytes : (b0 b1 b2 b3 : ℕ) → b0 < 256 → b1 < 256 → b2 < 256 → b3 < 256 → word_bytes (b0 + 256 * b1 + 65536 * b2 + 16777216 * b3) ≡ b0 ∷ b1 ∷ b2 ∷ b3 ∷ []
four_bytes b0 b1 b2 b3 h0 h1 h2 h3 = go (b0 + 256 * b1 + 65536 * b2 + 16777216 * b3) (omega arith)
  where
    go : (w : ℕ) → w ≡ b0 + 256 * (b1 + 256 * (b2 + 256 * b3)) → word_bytes w ≡ b0 ∷ b1 ∷ b2 ∷ b3 ∷ []
    go w e =
        let q1 : w / 256 ≡ b1 + 256 * (b2 + 256 * b3) = high-bytes w b0 (b1 + 256 * (b2 + 256 * b3)) h0 e in
        let q2 : w / 65536 ≡ b2 + 256 * b3 = sym (div-div-eq-div-mul w 256 256) ∙ high-bytes (w / 256) b1 (b2 + 256 * b3) h1 q1 in
        let q3 : w / 16777216 ≡ b3 = sym (div-div-eq-div-mul w 65536 256) ∙ high-bytes (w / 65536) b2 b3 h2 q2 in
        rw (low_byte w b0 (b1 + 256 * (b2 + 256 * b3)) h0 e, low_byte (w / 256) b1 (b2 + 256 * b3) h1 q1, low_byte (w / 65536) b2 b3 h2 q2, q3)

pub bytes-words : (bs : List ℕ) → Bytes bs → length bs % 4 ≡ 0 → bytes_of (words_of bs) ≡ bs
unfolding words_of bytes_of all
bytes-words [] t h = refl
bytes-words (b0 ∷ []) t h = absurd (omega arith)
bytes-words (b0 ∷ b1 ∷ []) t h = absurd (omega arith)
bytes-words (b0 ∷ b1 ∷ b2 ∷ []) t h = absurd (omega arith)
bytes-words (b0 ∷ b1 ∷ b2 ∷ b3 ∷ bs) t h =
    let t0 = and_right (ltb b0 256) (all (λ b. ltb b 256) (b1 ∷ b2 ∷ b3 ∷ bs)) t in
    let t1 = and_right (ltb b1 256) (all (λ b. ltb b 256) (b2 ∷ b3 ∷ bs)) t0 in
    let t2 = and_right (ltb b2 256) (all (λ b. ltb b 256) (b3 ∷ bs)) t1 in
    ap₂ (λ (x y : List ℕ). x ++ y)
    (four_bytes b0 b1 b2 b3
    (ltb→lt b0 256 (and_left (ltb b0 256) (all (λ b. ltb b 256) (b1 ∷ b2 ∷ b3 ∷ bs)) t))
    (ltb→lt b1 256 (and_left (ltb b1 256) (all (λ b. ltb b 256) (b2 ∷ b3 ∷ bs)) t0))
    (ltb→lt b2 256 (and_left (ltb b2 256) (all (λ b. ltb b 256) (b3 ∷ bs)) t1))
    (ltb→lt b3 256 (and_left (ltb b3 256) (all (λ b. ltb b 256) bs) t2)))
    (bytes-words bs (and_right (ltb b3 256) (all (λ b. ltb b 256) bs) t2) (omega arith))

pub bytes_of-length : (ws : List ℕ) → length (bytes_of ws) ≡ 4 * length ws
unfolding bytes_of
bytes_of-length [] = refl
bytes_of-length (w ∷ ws) = omega (arith, bytes_of-length ws)

pub bytes_of-append : (us ws : List ℕ) → bytes_of (us ++ ws) ≡ bytes_of us ++ bytes_of ws
unfolding bytes_of
bytes_of-append [] ws = refl
bytes_of-append (u ∷ us) ws = ap (λ (l : List ℕ). word_bytes u ++ l) (bytes_of-append us ws)

pub words_of-length : (bs : List ℕ) → length (words_of bs) ≡ length bs / 4
unfolding words_of
words_of-length [] = refl
words_of-length (b0 ∷ []) = omega arith
words_of-length (b0 ∷ b1 ∷ []) = omega arith
words_of-length (b0 ∷ b1 ∷ b2 ∷ []) = omega arith
words_of-length (b0 ∷ b1 ∷ b2 ∷ b3 ∷ bs) = omega (arith, words_of-length bs)

pub words_of-none : (bs : List ℕ) (i : ℕ) → length bs < 4 * i + 4 → word (words_of bs) i ≡ 0
words_of-none bs i h = get_or-eq_default (words_of bs) 0 (omega (arith, words_of-length bs))

words_of-suc : (b0 b1 b2 b3 : ℕ) (bs : List ℕ) (i : ℕ) → get_or (b0 ∷ b1 ∷ b2 ∷ b3 ∷ bs) (4 + i) 0 ≡ get_or bs i 0
words_of-suc b0 b1 b2 b3 bs i = let e : 4 + i ≡ suc (suc (suc (suc i))) = omega arith in rw e

pub words_of-at : (bs : List ℕ) (i : ℕ) → 4 * i + 4 ≤ length bs
    → word (words_of bs) i ≡ get_or bs (4 * i) 0 + 256 * get_or bs (4 * i + 1) 0 + 65536 * get_or bs (4 * i + 2) 0 + 16777216 * get_or bs (4 * i + 3) 0
unfolding words_of
words_of-at [] i h = absurd (omega arith)
words_of-at (b0 ∷ []) i h = absurd (omega arith)
words_of-at (b0 ∷ b1 ∷ []) i h = absurd (omega arith)
words_of-at (b0 ∷ b1 ∷ b2 ∷ []) i h = absurd (omega arith)
words_of-at (b0 ∷ b1 ∷ b2 ∷ b3 ∷ bs) zero h = refl
words_of-at (b0 ∷ b1 ∷ b2 ∷ b3 ∷ bs) (suc i) h =
    let l : List ℕ = b0 ∷ b1 ∷ b2 ∷ b3 ∷ bs in
    let e : 4 * suc i ≡ 4 + 4 * i = omega arith in
    let e1 : 4 * suc i + 1 ≡ 4 + (4 * i + 1) = omega arith in
    let e2 : 4 * suc i + 2 ≡ 4 + (4 * i + 2) = omega arith in
    let e3 : 4 * suc i + 3 ≡ 4 + (4 * i + 3) = omega arith in
    words_of-at bs i (omega arith)
    ∙ sum4 (sym (ap (λ (n : ℕ). get_or l n 0) e ∙ words_of-suc b0 b1 b2 b3 bs (4 * i))) (sym (ap (λ (n : ℕ). get_or l n 0) e1 ∙ words_of-suc b0 b1 b2 b3 bs (4 * i + 1)))
    (sym (ap (λ (n : ℕ). get_or l n 0) e2 ∙ words_of-suc b0 b1 b2 b3 bs (4 * i + 2))) (sym (ap (λ (n : ℕ). get_or l n 0) e3 ∙ words_of-suc b0 b1 b2 b3 bs (4 * i + 3)))
  where
    sum4 : {p q r s p' q' r' s' : ℕ} → p ≡ p' → q ≡ q' → r ≡ r' → s ≡ s' → p + 256 * q + 65536 * r + 16777216 * s ≡ p' + 256 * q' + 65536 * r' + 16777216 * s'
    sum4 e f g h = omega arith
