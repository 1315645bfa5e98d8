-- Laws of masks: a set of n columns and a number below 2 ^ n are the same thing.
--   mask-join, columns_of-minus, mask-none    the masks of sets that are joined, left out and empty
--   full-columns     the mask of all columns
use Prim.Native.Nat.{ℕ, zero, suc, ◌+◌, ◌-◌, ◌*◌, ◌/◌, ◌%◌, ◌^◌, ◌≤◌, ◌<◌}
use native.Mathlib.Omega.{arith}
use native.Mathlib.Nat.{div-one, div-div-eq-div-mul, pow-suc}
use mathlib.Core.Path.{◌≡◌, refl, sym, ap, ap₂, ◌∙◌}
use mathlib.Core.Bool.{Bool, true, false, not, ◌&&◌, ◌||◌}
use mathlib.Core.List.{[], ◌∷◌, map, zip_with}
use lib.ListN.{length}
use lib.Dec.{T, eqb}
use lib.Pow.{pow_pos}
use borrow.Author.Tests.{eq-eqb, ne_eqb}
use Rattle.order.specs.Counting.{bit, count}
use Rattle.order.proofs.Booleans.{digit-cases}
use Rattle.columns.specs.Columns.{Columns, every_column, size, ◌∪◌, ◌∖◌, in_set, columns_of, mask_of, full_mask}
use Rattle.columns.proofs.Sets.{has, ◌⊆◌, none, more, length-∖}

pub columns_of-length : (n s : ℕ) → length (columns_of n s) ≡ n
unfolding columns_of
columns_of-length zero s = refl
columns_of-length (suc n) s = ap suc (columns_of-length n (s / 2))

low_bit : (b : Bool) (m : ℕ) → eqb ((bit b + 2 * m) % 2) 1 ≡ b
low_bit true m = let e : (1 + 2 * m) % 2 ≡ 1 = omega arith in rw e
low_bit false m = let e : (0 + 2 * m) % 2 ≡ 0 = omega arith in rw e

high_bits : (b : Bool) (m : ℕ) → (bit b + 2 * m) / 2 ≡ m
high_bits true m = omega arith
high_bits false m = omega arith

pub columns_of-mask_of : (K : Columns) → columns_of (length K) (mask_of K) ≡ K
unfolding columns_of mask_of
columns_of-mask_of [] = refl
columns_of-mask_of (b ∷ K) = ap₂ (λ (c : Bool) (L : Columns). c ∷ L) (low_bit b (mask_of K)) (ap (columns_of (length K)) (high_bits b (mask_of K)) ∙ columns_of-mask_of K)

pub in_set-half : (s j : ℕ) → in_set (s / 2) j ≡ in_set s (suc j)
in_set-half s j = ap (λ (n : ℕ). eqb (n % 2) 1) (div-div-eq-div-mul s 2 (2 ^ j) ∙ ap (λ (n : ℕ). s / n) (native.Mathlib.Nat.mul_comm 2 (2 ^ j) ∙ sym (pow-suc 2 j)))

pub has-columns_of : (n s j : ℕ) → j < n → has (columns_of n s) j ≡ in_set s j
unfolding columns_of
has-columns_of zero s j h = absurd (omega arith)
has-columns_of (suc n) s zero h = ap (λ (m : ℕ). eqb (m % 2) 1) (sym (div-one s))
has-columns_of (suc n) s (suc j) h = has-columns_of n (s / 2) j (omega arith) ∙ in_set-half s j

pub columns_of-zero : (n j : ℕ) → has (columns_of n 0) j ≡ false
unfolding columns_of
columns_of-zero zero j = refl
columns_of-zero (suc n) zero = refl
columns_of-zero (suc n) (suc j) = columns_of-zero n j

pub mask_of-lt : (K : Columns) → mask_of K < 2 ^ length K
unfolding mask_of
mask_of-lt [] = omega arith
mask_of-lt (b ∷ K) = omega (arith, Rattle.order.proofs.Counts.bit-one b, mask_of-lt K, pow-suc 2 (length K))

pub mask_of-columns_of : (n s : ℕ) → s < 2 ^ n → mask_of (columns_of n s) ≡ s
unfolding columns_of mask_of
mask_of-columns_of zero s h = omega arith
mask_of-columns_of (suc n) s h = omega (arith, mask_of-columns_of n (s / 2) (omega (arith, pow-suc 2 n)), low_digit s)
  where
    low_digit : (s : ℕ) → bit (eqb (s % 2) 1) ≡ s % 2
    low_digit s = digit-cases (λ d. bit (eqb d 1) ≡ d) refl refl (s % 2) (omega arith)

-- ---- masks of sets that are joined, left out or empty

-- sets that share no column
pub mask-join : (K L : Columns) → length K ≡ length L → ((j : ℕ) → T (has K j) → has L j ≡ false) → mask_of (K ∪ L) ≡ mask_of K + mask_of L
unfolding mask_of ◌∪◌ zip_with
mask-join [] [] h f = refl
mask-join [] (b ∷ L) h f = absurd (omega arith)
mask-join (a ∷ K) [] h f = absurd (omega arith)
mask-join (a ∷ K) (b ∷ L) h f = omega (arith, digit a b (f 0), mask-join K L (omega arith) (λ j. f (suc j)))
  where
    digit : (a b : Bool) → (T a → b ≡ false) → bit (a || b) ≡ bit a + bit b
    digit true b g = omega (arith, ap bit (g tt))
    digit false b g = omega arith

-- what a set leaves of one that holds it
mask-within : {R K : Columns} → R ⊆ K → mask_of R ≤ mask_of K
unfolding mask_of
mask-within none = omega arith
mask-within (more {a} {b} f s) = omega (arith, Rattle.order.proofs.Counts.bit_le a b f, mask-within s)

mask-minus : {R K : Columns} → R ⊆ K → mask_of K - mask_of R ≡ mask_of (K ∖ R)
unfolding mask_of ◌∖◌ zip_with
mask-minus none = refl
mask-minus (more {a} {b} f s) = omega (arith, digit a b f, mask-minus s, mask-within s)
  where
    digit : (a b : Bool) → (T a → T b) → bit b ≡ bit (b && not a) + bit a
    digit true true g = refl
    digit true false g = absurd (g tt)
    digit false true g = refl
    digit false false g = refl

pub columns_of-minus : (n s r : ℕ) → s < 2 ^ n → r < 2 ^ n → columns_of n r ⊆ columns_of n s → columns_of n (s - r) ≡ columns_of n s ∖ columns_of n r
columns_of-minus n s r h k sub =
    ap₂ (λ (x y : ℕ). columns_of n (x - y)) (sym (mask_of-columns_of n s h)) (sym (mask_of-columns_of n r k))
    ∙ ap (columns_of n) (mask-minus sub)
    ∙ ap (λ (m : ℕ). columns_of m (mask_of (columns_of n s ∖ columns_of n r))) (sym (length-∖ (columns_of n s) (columns_of n r) (columns_of-length n s ∙ sym (columns_of-length n r)) ∙ columns_of-length n s))
    ∙ columns_of-mask_of (columns_of n s ∖ columns_of n r)

pub minus-fits : (n s r : ℕ) → s < 2 ^ n → r < 2 ^ n → columns_of n r ⊆ columns_of n s → r ≤ s
minus-fits n s r h k sub = omega (arith, mask-within sub, mask_of-columns_of n s h, mask_of-columns_of n r k)

-- no column, as a mask and as a set
pub mask-none : (K : Columns) → eqb (mask_of K) 0 ≡ eqb (size K) 0
unfolding mask_of size count
mask-none K = go (mask_of K) (size K) (same K)
  where
    same : (K : Columns) → (mask_of K ≡ 0 → size K ≡ 0) × (size K ≡ 0 → mask_of K ≡ 0)
    same [] = (λ e. refl, λ e. refl)
    same (true ∷ K) = (λ e. absurd (omega arith), λ e. absurd (omega arith))
    same (false ∷ K) = (λ e. omega (arith, (same K).0 (omega arith)), λ e. omega (arith, (same K).1 (omega arith)))

    go : (m n : ℕ) → (m ≡ 0 → n ≡ 0) × (n ≡ 0 → m ≡ 0) → eqb m 0 ≡ eqb n 0
    go zero n f = sym (eq-eqb n 0 (f.0 refl))
    go (suc m) n f = ne_eqb (suc m) 0 (λ e. omega arith) ∙ sym (ne_eqb n 0 (λ e. omega (arith, f.1 e)))

pub columns_of-none : (K : Columns) → columns_of (length K) 0 ≡ map (λ _. false) K
unfolding columns_of
columns_of-none [] = refl
columns_of-none (b ∷ K) = ap (λ (L : Columns). false ∷ L) (columns_of-none K)

pub size_none : (n : ℕ) → size (columns_of n 0) ≡ 0
unfolding columns_of size count
size_none zero = refl
size_none (suc n) = omega (arith, size_none n)

-- ---- all columns

pub full-columns : (n : ℕ) → columns_of n (full_mask n) ≡ every_column n
unfolding columns_of
full-columns zero = refl
full-columns (suc n) = ap₂ (λ (b : Bool) (K : Columns). b ∷ K) (ap (λ (m : ℕ). eqb m 1) low) (ap (columns_of n) high ∙ full-columns n)
  where
    low : (2 ^ suc n - 1) % 2 ≡ 1
    low = omega (arith, pow-suc 2 n, pow_pos n)

    high : (2 ^ suc n - 1) / 2 ≡ 2 ^ n - 1
    high = omega (arith, pow-suc 2 n, pow_pos n)

pub full-fits : (n : ℕ) → full_mask n < 2 ^ n
full-fits n = omega (arith, pow_pos n)
