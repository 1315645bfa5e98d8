-- How many columns a mask has.
--   size-mask          as many as the set that it is the mask of
--   and-size           those that two masks share
--   size-wide, size-part     the bits that are 1, of more columns than there are bits and of the first columns
--   lowest-empty, lowest-out     a mask without its lowest column
--   fewer-none, fewer-one        the same where t is below k
--   left_over          at least k columns: one is left without k - 1 of them
use Prim.Native.Nat.{ℕ, zero, suc, ◌+◌, ◌-◌, ◌*◌, ◌/◌, ◌%◌, ◌^◌, ◌≤◌, ◌<◌, min}
use native.Mathlib.Omega.{arith}
use native.Mathlib.Nat.{pow-suc}
use mathlib.Core.Path.{◌≡◌, refl, sym, ap, ap₂, ◌∙◌}
use mathlib.Core.Bool.{Bool, true, false, not, ◌&&◌}
use mathlib.Core.List.{[], ◌∷◌, zip_with}
use lib.ListN.{length}
use lib.Dec.{eqb, ltb, leb}
use lib.Bits.{bit_and, and_step, and_self, and_zero_r}
use lib.Count.{ones, ones_in, ones_step}
use lib.Pow.{pow_mono}
use Rattle.std.proofs.lemmas.Nat.{and_le_r}
use borrow.Author.Tests.{eq-eqb, ne_eqb, le-leb, lt-leb, lt-ltb, le-ltb}
use Rattle.order.specs.Counting.{bit, count}
use Rattle.order.proofs.Counts.{bit-one}
use Rattle.columns.specs.Columns.{Columns, size, ◌∩◌, columns_of, mask_of, every_column, full_mask}
use Rattle.columns.proofs.Masks.{size_none, columns_of-length, mask_of-columns_of, full-columns, full-fits}

-- ---- a mask and its lowest bit

size-split : (n x : ℕ) → size (columns_of (suc n) x) ≡ bit (eqb (x % 2) 1) + size (columns_of n (x / 2))
unfolding size columns_of count
size-split n x = refl

size-digit : (n w d : ℕ) → d < 2 → size (columns_of (suc n) (w * 2 + d)) ≡ bit (eqb d 1) + size (columns_of n w)
size-digit n w d h =
    let e : (w * 2 + d) % 2 ≡ d = omega arith in
    let f : (w * 2 + d) / 2 ≡ w = omega arith in
    size-split n (w * 2 + d) ∙ ap₂ (λ (x y : ℕ). bit (eqb x 1) + size (columns_of n y)) e f

pub size-mask : (n : ℕ) (K : Columns) → length K ≤ n → size (columns_of n (mask_of K)) ≡ size K
unfolding mask_of size count columns_of
size-mask n [] h = size_none n
size-mask zero (b ∷ K) h = absurd (omega arith)
size-mask (suc n) (b ∷ K) h =
    let e : (bit b + 2 * mask_of K) / 2 ≡ mask_of K = omega (arith, bit-one b) in
    let f : (bit b + 2 * mask_of K) % 2 ≡ bit b = omega (arith, bit-one b) in
    ap₂ (λ (y z : ℕ). bit (eqb y 1) + size (columns_of n z)) f e ∙ ap₂ (λ (y z : ℕ). y + z) (bit-bit b) (size-mask n K (omega arith))
  where
    bit-bit : (b : Bool) → bit (eqb (bit b) 1) ≡ bit b
    bit-bit true = refl
    bit-bit false = refl

-- the bits that are 1
size-ones : (n s : ℕ) → s < 2 ^ n → ones s ≡ size (columns_of n s)
unfolding ones ones_in size count columns_of
size-ones zero s h = let z : s ≡ 0 = omega arith in rw z refl
size-ones (suc n) s h = ones_step s ∙ ap₂ (λ (x y : ℕ). x + y) (digit (s % 2) (omega arith)) (size-ones n (s / 2) (omega (arith, pow-suc 2 n))) ∙ sym (size-split n s)
  where
    digit : (d : ℕ) → d < 2 → d ≡ bit (eqb d 1)
    digit zero h = refl
    digit (suc zero) h = refl
    digit (suc (suc d)) h = absurd (omega arith)

-- of more columns than the mask has bits
pub size-wide : (n s : ℕ) → 32 ≤ n → s < 2 ^ 32 → ones s ≡ size (columns_of n s)
size-wide n s h l =
    size-ones 32 s l ∙ sym (size-mask n (columns_of 32 s) (omega (arith, columns_of-length 32 s))) ∙ ap (λ (m : ℕ). size (columns_of n m)) (mask_of-columns_of 32 s l)

-- ---- two masks

min-bit : (c d : ℕ) → c < 2 → d < 2 → (min c d < 2) × (bit (eqb (min c d) 1) ≡ bit (eqb c 1 && eqb d 1))
min-bit zero zero h l = (omega arith, refl)
min-bit zero (suc zero) h l = (omega arith, refl)
min-bit zero (suc (suc d)) h l = absurd (omega arith)
min-bit (suc zero) zero h l = (omega arith, refl)
min-bit (suc zero) (suc zero) h l = (omega arith, refl)
min-bit (suc zero) (suc (suc d)) h l = absurd (omega arith)
min-bit (suc (suc c)) d h l = absurd (omega arith)

pub and-size : (N n m s : ℕ) → n ≤ N → s < 2 ^ n → size (columns_of N (bit_and m s)) ≡ size (columns_of n m ∩ columns_of n s)
unfolding size count ◌∩◌ zip_with columns_of
and-size N zero m s h l = let z : s ≡ 0 = omega arith in ap (λ (y : ℕ). size (columns_of N y)) (ap (bit_and m) z ∙ and_zero_r m) ∙ size_none N
and-size zero (suc n) m s h l = absurd (omega arith)
and-size (suc N) (suc n) m s h l =
    let q = min-bit (m % 2) (s % 2) (omega arith) (omega arith) in
    ap (λ (y : ℕ). size (columns_of (suc N) y)) (and_step m s)
    ∙ size-digit N (bit_and (m / 2) (s / 2)) (min (m % 2) (s % 2)) q.0
    ∙ ap₂ (λ (y z : ℕ). y + z) q.1 (and-size N n (m / 2) (s / 2) (omega arith) (omega (arith, pow-suc 2 n)))

and-true : (b : Bool) → (b && true) ≡ b
and-true true = refl
and-true false = refl

meet-every : (n : ℕ) (K : Columns) → length K ≡ n → K ∩ every_column n ≡ K
unfolding ◌∩◌ zip_with
meet-every zero [] h = refl
meet-every zero (b ∷ K) h = absurd (omega arith)
meet-every (suc n) [] h = absurd (omega arith)
meet-every (suc n) (b ∷ K) h = ap₂ (λ (c : Bool) (L : Columns). c ∷ L) (and-true b) (meet-every n K (omega arith))

-- of the first n columns
pub size-part : (n s m : ℕ) → n ≤ 32 → m ≡ full_mask n → ones (bit_and s m) ≡ size (columns_of n s)
size-part n s m h e =
    let l : m < 2 ^ n = omega (arith, e, full-fits n) in
    let fits : m < 2 ^ 32 = omega (arith, l, pow_mono h) in
    size-ones 32 (bit_and s m) (omega (arith, and_le_r s m, fits)) ∙ and-size 32 n s m h l
    ∙ ap (λ (x : ℕ). size (columns_of n s ∩ columns_of n x)) e ∙ ap (λ (K : Columns). size (columns_of n s ∩ K)) (full-columns n)
    ∙ ap size (meet-every n (columns_of n s) (columns_of-length n s))

-- ---- a mask without its lowest column

lowest-size : (n x : ℕ) → 0 < x → x < 2 ^ n → suc (size (columns_of n (bit_and x (x - 1)))) ≡ size (columns_of n x)
lowest-size zero x p h = absurd (omega arith)
lowest-size (suc n) x p h = go (x % 2) refl (λ q l. lowest-size n (x / 2) q l)
  where
    low-out : (w d : ℕ) → min (x % 2) ((x - 1) % 2) ≡ d → bit_and (x / 2) ((x - 1) / 2) ≡ w → d < 2 → size (columns_of (suc n) (bit_and x (x - 1))) ≡ bit (eqb d 1) + size (columns_of n w)
    low-out w d e f l = ap (λ (y : ℕ). size (columns_of (suc n) y)) (and_step x (x - 1) ∙ ap₂ (λ (y z : ℕ). y * 2 + z) f e) ∙ size-digit n w d l

    go : (d : ℕ) → x % 2 ≡ d → (0 < x / 2 → x / 2 < 2 ^ n → suc (size (columns_of n (bit_and (x / 2) (x / 2 - 1)))) ≡ size (columns_of n (x / 2)))
        → suc (size (columns_of (suc n) (bit_and x (x - 1)))) ≡ size (columns_of (suc n) x)
    go zero e ih =
        let a : (x - 1) % 2 ≡ 1 = omega arith in
        let b : (x - 1) / 2 ≡ x / 2 - 1 = omega arith in
        let l : x / 2 < 2 ^ n = omega (arith, pow-suc 2 n) in
        omega (arith, low-out (bit_and (x / 2) (x / 2 - 1)) 0 (ap₂ min e a) (ap (λ (y : ℕ). bit_and (x / 2) y) b) (omega arith), ih (omega arith) l, size-split n x, ap (λ (y : ℕ). bit (eqb y 1)) e)
    go (suc zero) e ih =
        let a : (x - 1) % 2 ≡ 0 = omega arith in
        let b : (x - 1) / 2 ≡ x / 2 = omega arith in
        omega (arith, low-out (x / 2) 0 (ap₂ min e a) (ap (λ (y : ℕ). bit_and (x / 2) y) b ∙ and_self (x / 2)) (omega arith), size-split n x, ap (λ (y : ℕ). bit (eqb y 1)) e)
    go (suc (suc d)) e ih = absurd (omega arith)

pub lowest-empty : (x : ℕ) → x ≡ 0 → size (columns_of 32 0) ≡ size (columns_of 32 x) - 1
lowest-empty x e = omega (arith, size_none 32, ap (λ (y : ℕ). size (columns_of 32 y)) e)

pub lowest-out : (x : ℕ) → x < 2 ^ 32 → (x ≡ 0 → ⊥) → size (columns_of 32 (bit_and x (x - 1))) ≡ size (columns_of 32 x) - 1
lowest-out x l f = omega (arith, lowest-size 32 x (omega (arith, f)) l)

pub fewer-none : (x k t : ℕ) → k ≤ t → size (columns_of 32 x) ≡ size (columns_of 32 x) - bit (ltb t k)
fewer-none x k t h = omega (arith, ap bit (le-ltb t k h))

pub fewer-one : (x y k t : ℕ) → t < k → size (columns_of 32 y) ≡ size (columns_of 32 x) - 1 → size (columns_of 32 y) ≡ size (columns_of 32 x) - bit (ltb t k)
fewer-one x y k t h e = omega (arith, ap bit (lt-ltb t k h))

-- ---- at least k columns

-- s - (k - 1), one bit at a time
without : (k s : ℕ) → 0 < k → k ≤ 4 → s - bit (ltb 1 k) - bit (ltb 2 k) - bit (ltb 3 k) ≡ s - (k - 1)
without zero s p h = absurd (omega arith)
without (suc zero) s p h = omega arith
without (suc (suc zero)) s p h = omega arith
without (suc (suc (suc zero))) s p h = omega arith
without (suc (suc (suc (suc zero)))) s p h = omega arith
without (suc (suc (suc (suc (suc k))))) s p h = absurd (omega arith)

pub left_over : (x a b c k : ℕ) → c < 2 ^ 32 → 0 < k → k ≤ 4
    → size (columns_of 32 a) ≡ size (columns_of 32 x) - bit (ltb 1 k) → size (columns_of 32 b) ≡ size (columns_of 32 a) - bit (ltb 2 k) → size (columns_of 32 c) ≡ size (columns_of 32 b) - bit (ltb 3 k)
    → not (eqb c 0) ≡ leb k (size (columns_of 32 x))
left_over x a b c k l p h u v w = go c refl
  where
    left : size (columns_of 32 c) ≡ size (columns_of 32 x) - (k - 1)
    left = w ∙ ap (λ (y : ℕ). y - bit (ltb 3 k)) (v ∙ ap (λ (y : ℕ). y - bit (ltb 2 k)) u) ∙ without k (size (columns_of 32 x)) p h

    go : (y : ℕ) → c ≡ y → not (eqb c 0) ≡ leb k (size (columns_of 32 x))
    go zero e = ap not (eq-eqb c 0 e) ∙ sym (lt-leb k (size (columns_of 32 x)) (omega (arith, left, size_none 32, ap (λ (z : ℕ). size (columns_of 32 z)) e)))
    go (suc y) e = ap not (ne_eqb c 0 (λ z. omega arith)) ∙ sym (le-leb k (size (columns_of 32 x)) (omega (arith, left, lowest-size 32 c (omega arith) l)))
