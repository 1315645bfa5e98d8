-- Finite values as natural numbers in the same order, so that facts on the order are facts on numbers.
--   key x            the number x in units of the smallest positive value, shifted so that it is never negative
--   mag, signed      a magnitude in these units, and so many above or below zero's key; mag-lt, zero-mag, no-mag: its bound, and zero's
--   smaller-key      x is smaller than y exactly where its key is
--   at_most-key     the same of at most; at_most-le: from keys; smaller-unequal: at most and not equal is smaller
--   equal_is, equal-key    equal numbers have one key, and only those; equal-self, equal-with_plus_zero: each equals itself, and with plus zero for either zero
--   with_plus_zero-same  finite values with one key differ at most in the sign of zero; equal-same: equal ones without a minus sign on zero are the same
use Prim.Native.Nat.{ℕ, zero, suc, ◌+◌, ◌-◌, ◌*◌, ◌/◌, ◌^◌, ◌≤◌, ◌<◌, ◌%◌}
use native.Mathlib.Omega.{arith}
use native.Mathlib.Nat.{mul-one, div-one, mul_assoc, mul_comm, mul_left_comm, mul-pos, mul-div_cancel, mul-lt-mul_of_pos_right, lt_of_mul-lt-mul_right, zero-mul, add-mul, le_of_eq, lt_of_le_of_lt}
use native.Mathlib.Decide.{dec_lt, dec_le}
use mathlib.Core.Path.{◌≡◌, refl, sym, ap, ap₂, subst, ◌∙◌}
use mathlib.Core.Logic.{◌↔◌}
use mathlib.Core.Bool.{Bool, true, false, not, cond, ◌&&◌, ◌||◌}
use lib.IntN.{ℤ, pos, negsuc}
use lib.Dec.{ltb, leb, eqb, T, ltb→lt, leb→le, eqb→eq}
use lib.Pow.{pow-add, pow_pos, pow-lt}
use lib.Ieee.{Float, nan, inf, fin, Format, binary64, prec, emax, low, up, down, top, hid, below, level, lt, eq, le, div, fits, to_bits, of_bits}
use lib.Ieee.Fits.{down_pos, and_l, and_r}
use lib.Ieee.Scale.{overflow}
use lib.Ieee.Bits.{of_bits-to_bits}
use borrow.Author.Tests.{lt-ltb, le-ltb, le-leb, lt-leb, eq-eqb, ne_eqb, eqb-false}
use Rattle.order.specs.Order.{smaller, at_most, equal, finite, plus_zero, with_plus_zero}
use Rattle.order.proofs.Booleans.{iff-ltb, leb-not, true-T}

-- ---- magnitudes, in any format

-- the magnitude m * 2 ^ e in units of the format's smallest positive value
abbrev pub mag : Format → ℕ → ℤ → ℕ
mag f m e = m * up e * 2 ^ low f / down e

-- B and so many above it, or below it
abbrev pub signed : ℕ → Bool → ℕ → ℕ
signed B false n = B + n
signed B true n = B - n

exact : (y : ℕ) (e : ℤ) (l : ℕ) → down e ≤ 2 ^ l → y * 2 ^ l / down e * down e ≡ y * 2 ^ l
exact y (pos k) l h = mul-one (y * 2 ^ l / 1) ∙ div-one (y * 2 ^ l)
exact y (negsuc k) l h =
    let d : l - suc k + suc k ≡ l = back (dec_le (suc k) l) in
    let e₁ : y * 2 ^ l ≡ y * 2 ^ (l - suc k) * 2 ^ suc k = ap (λ (z : ℕ). y * 2 ^ z) (sym d) ∙ ap (λ (z : ℕ). y * z) (pow-add 2 (l - suc k) (suc k)) ∙ sym (mul_assoc y (2 ^ (l - suc k)) (2 ^ suc k)) in
    ap (λ (z : ℕ). z / 2 ^ suc k * 2 ^ suc k) e₁ ∙ ap (λ (z : ℕ). z * 2 ^ suc k) (mul-div_cancel (y * 2 ^ (l - suc k)) (pow_pos (suc k))) ∙ sym e₁
  where
    back : Dec (suc k ≤ l) → l - suc k + suc k ≡ l
    back (yes g) = omega arith
    back (no g) = absurd (let n : 2 ^ l < 2 ^ suc k = pow-lt (omega (arith, g)) in omega arith)

fits-down : (f : Format) (s : Bool) (m : ℕ) (e : ℤ) → T (fits f (fin s m e)) → down e ≤ 2 ^ low f
unfolding fits
fits-down f s zero (pos k) t = pow_pos (low f)
fits-down f s zero (negsuc k) t = omega (arith, eqb→eq (1 * 2 ^ suc k) 1 t, pow_pos (low f))
fits-down f s (suc m) e t =
    leb→le (down e) (2 ^ low f) (and_r (eqb (suc m % 2) 1 && ltb (suc m) (2 ^ prec f)) (leb (down e) (2 ^ low f))
    (and_l (eqb (suc m % 2) 1 && ltb (suc m) (2 ^ prec f) && leb (down e) (2 ^ low f)) (ltb (suc m * up e) (2 ^ suc (emax f) * down e)) t))

fits_under : (f : Format) (s : Bool) (m : ℕ) (e : ℤ) → T (fits f (fin s m e)) → m * up e < 2 ^ suc (emax f) * down e
unfolding fits
fits_under f s zero e t = lt_of_le_of_lt (le_of_eq (zero-mul (up e))) (mul-pos (pow_pos (suc (emax f))) (down_pos e))
fits_under f s (suc m) e t =
    ltb→lt (suc m * up e) (2 ^ suc (emax f) * down e) (and_r (eqb (suc m % 2) 1 && ltb (suc m) (2 ^ prec f) && leb (down e) (2 ^ low f)) (ltb (suc m * up e) (2 ^ suc (emax f) * down e)) t)

-- the magnitude is whole, and below the overflow
mag-val : (f : Format) (s : Bool) (m : ℕ) (e : ℤ) → T (fits f (fin s m e)) → mag f m e * down e ≡ m * up e * 2 ^ low f
mag-val f s m e t = exact (m * up e) e (low f) (fits-down f s m e t)

pub mag-lt : (f : Format) (s : Bool) (m : ℕ) (e : ℤ) → T (fits f (fin s m e)) → mag f m e < overflow f
mag-lt f s m e t =
    lt_of_mul-lt-mul_right (down e) (rw (mag-val f s m e t, pow-add 2 (low f) (suc (emax f)))
    (rw (mul_comm (2 ^ low f) (2 ^ suc (emax f)), mul_assoc (2 ^ suc (emax f)) (2 ^ low f) (down e), mul_comm (2 ^ low f) (down e), ← mul_assoc (2 ^ suc (emax f)) (down e) (2 ^ low f))
    (mul-lt-mul_of_pos_right (fits_under f s m e t) (pow_pos (low f)))))

-- ---- the order of two fractions over D is that of their whole numbers

cross : (a b x y D L : ℕ) → 0 < D → 0 < L → a * L ≡ x * D → b * L ≡ y * D → (a < b) ↔ (x < y)
cross a b x y D L d l p q = (
  λ h. lt_of_mul-lt-mul_right D (rw (← p, ← q) (mul-lt-mul_of_pos_right h l)),
  λ h. lt_of_mul-lt-mul_right L (rw (p, q) (mul-lt-mul_of_pos_right h d)),
)

below_key : (s t : Bool) (a b x y B : ℕ) → (a < b) ↔ (x < y) → (b < a) ↔ (y < x) → (0 < a + b) ↔ (0 < x + y) → x < B → y < B → below s a t b ≡ ltb (signed B s x) (signed B t y)
below_key false false a b x y B h g k xB yB = iff-ltb a b (B + x) (B + y) (λ q. omega (arith, h.0 q), λ q. h.1 (omega arith))
below_key false true a b x y B h g k xB yB = sym (le-ltb (B + x) (B - y) (omega arith))
below_key true false a b x y B h g k xB yB = iff-ltb 0 (a + b) (B - x) (B + y) (λ q. omega (arith, k.0 q), λ q. k.1 (omega arith))
below_key true true a b x y B h g k xB yB = iff-ltb b a (B - x) (B - y) (λ q. omega (arith, g.0 q), λ q. g.1 (omega arith))

fin-key : (f : Format) (s : Bool) (m : ℕ) (e : ℤ) (r : Bool) (n : ℕ) (d : ℤ) → T (fits f (fin s m e)) → T (fits f (fin r n d))
    → lt (fin s m e) (fin r n d) ≡ ltb (signed (overflow f) s (mag f m e)) (signed (overflow f) r (mag f n d))
unfolding lt
fin-key f s m e r n d t u =
    let L = 2 ^ low f in
    let D = down e * down d in
    let P : 0 < D = mul-pos (down_pos e) (down_pos d) in
    let va : m * up e * down d * L ≡ mag f m e * D =
    simp (mul_assoc, mul_comm) (simp (mul_assoc, mul_comm, mul_left_comm) at (ap (λ (z : ℕ). z * down d) (sym (mag-val f s m e t)))) in
    let vb : n * up d * down e * L ≡ mag f n d * D =
    simp (mul_assoc, mul_comm) (simp (mul_assoc, mul_comm, mul_left_comm) at (ap (λ (z : ℕ). z * down e) (sym (mag-val f r n d u)))) in
    let vs : (m * up e * down d + n * up d * down e) * L ≡ (mag f m e + mag f n d) * D =
    add-mul (m * up e * down d) (n * up d * down e) L ∙ ap₂ (λ (x y : ℕ). x + y) va vb ∙ sym (add-mul (mag f m e) (mag f n d) D) in
    below_key s r (m * up e * down d) (n * up d * down e) (mag f m e) (mag f n d) (overflow f)
    (cross (m * up e * down d) (n * up d * down e) (mag f m e) (mag f n d) D L P (pow_pos (low f)) va vb)
    (cross (n * up d * down e) (m * up e * down d) (mag f n d) (mag f m e) D L P (pow_pos (low f)) vb va)
    (cross 0 (m * up e * down d + n * up d * down e) 0 (mag f m e + mag f n d) D L P (pow_pos (low f)) (zero-mul L ∙ sym (zero-mul D)) vs)
    (mag-lt f s m e t) (mag-lt f r n d u)

-- ---- the key of a finite value

unfoldable pub key : Float → ℕ
key nan = 0
key (inf s) = 0
key (fin s m e) = signed (overflow binary64) s (mag binary64 m e)

signed-some : (s : Bool) (B n : ℕ) → n < B → 0 < signed B s n
signed-some false B n h = omega arith
signed-some true B n h = omega arith

pub key-some : (x : Float) → T (finite x) → 0 < key x
unfolding finite key
key-some nan p = absurd p
key-some (inf s) p = absurd p
key-some (fin s m e) p = signed-some s (overflow binary64) (mag binary64 m e) (mag-lt binary64 s m e p)

pub smaller-key : (x y : Float) → T (finite x) → T (finite y) → smaller x y ≡ ltb (key x) (key y)
unfolding finite key
smaller-key nan y p q = absurd p
smaller-key (inf s) y p q = absurd p
smaller-key (fin s m e) nan p q = absurd q
smaller-key (fin s m e) (inf t) p q = absurd q
smaller-key (fin s m e) (fin t n d) p q = fin-key binary64 s m e t n d p q

-- at most is "not above"
level-not : (s t : Bool) (a b : ℕ) → (below s a t b || level s a t b) ≡ not (below t b s a)
level-not false false a b = go (dec_lt a b) (dec_lt b a)
  where
    go : Dec (a < b) → Dec (b < a) → (ltb a b || (eqb a b && true)) ≡ not (ltb b a)
    go (yes g) h = rw (lt-ltb a b g, le-ltb b a (omega arith))
    go (no g) (yes h) = rw (le-ltb a b (omega arith), lt-ltb b a h, ne_eqb a b (λ q. omega arith))
    go (no g) (no h) = rw (le-ltb a b (omega (arith, g)), le-ltb b a (omega (arith, h)), eq-eqb a b (omega (arith, g, h)))
level-not false true a b = go (dec_lt 0 (b + a))
  where
    go : Dec (0 < b + a) → (eqb a b && eqb a 0) ≡ not (ltb 0 (b + a))
    go (yes g) = rw (lt-ltb 0 (b + a) g) (none (dec_lt 0 a))
      where
        none : Dec (0 < a) → (eqb a b && eqb a 0) ≡ false
        none (yes h) = rw (ne_eqb a 0 (λ q. omega arith)) (off (eqb a b))
          where
            off : (c : Bool) → (c && false) ≡ false
            off true = refl
            off false = refl
        none (no h) = rw (ne_eqb a b (λ q. omega (arith, h)))
    go (no g) = rw (le-ltb 0 (b + a) (omega (arith, g)), eq-eqb a b (omega (arith, g)), eq-eqb a 0 (omega (arith, g)))
level-not true false a b = go (dec_lt 0 (a + b))
  where
    go : Dec (0 < a + b) → (ltb 0 (a + b) || (eqb a b && eqb a 0)) ≡ true
    go (yes g) = rw (lt-ltb 0 (a + b) g)
    go (no g) = rw (le-ltb 0 (a + b) (omega (arith, g)), eq-eqb a b (omega (arith, g)), eq-eqb a 0 (omega (arith, g)))
level-not true true a b = go (dec_lt b a) (dec_lt a b)
  where
    go : Dec (b < a) → Dec (a < b) → (ltb b a || (eqb a b && true)) ≡ not (ltb a b)
    go (yes g) h = rw (lt-ltb b a g, le-ltb a b (omega arith))
    go (no g) (yes h) = rw (le-ltb b a (omega arith), lt-ltb a b h, ne_eqb a b (λ q. omega arith))
    go (no g) (no h) = rw (le-ltb a b (omega (arith, h)), le-ltb b a (omega (arith, g)), eq-eqb a b (omega (arith, g, h)))

at_most-not : (x y : Float) → T (finite x) → T (finite y) → at_most x y ≡ not (smaller y x)
unfolding finite le lt eq
at_most-not nan y p q = absurd p
at_most-not (inf s) y p q = absurd p
at_most-not (fin s m e) nan p q = absurd q
at_most-not (fin s m e) (inf t) p q = absurd q
at_most-not (fin s m e) (fin t n d) p q = level-not s t (m * up e * down d) (n * up d * down e)

pub at_most-key : (x y : Float) → T (finite x) → T (finite y) → at_most x y ≡ leb (key x) (key y)
at_most-key x y p q = at_most-not x y p q ∙ ap not (smaller-key y x q p) ∙ sym (leb-not (key x) (key y))

pub at_most-le : (x y : Float) → T (finite x) → T (finite y) → key x ≤ key y → T (at_most x y)
at_most-le x y p q h = true-T (at_most x y) (at_most-key x y p q ∙ le-leb (key x) (key y) h)

-- values that are equal as numbers have one key, and only those
pub equal_is : (x y : Float) → T (finite x) → T (finite y) → equal x y ≡ eqb (key x) (key y)
equal_is x y p q = ap₂ (λ (a b : Bool). a && b) (at_most-key x y p q) (at_most-key y x q p) ∙ both (key x) (key y) (dec_lt (key x) (key y)) (dec_lt (key y) (key x))
  where
    both : (a b : ℕ) → Dec (a < b) → Dec (b < a) → (leb a b && leb b a) ≡ eqb a b
    both a b (yes g) h = rw (le-leb a b (omega arith), lt-leb b a g, ne_eqb a b (λ q. omega arith))
    both a b (no g) (yes h) = rw (lt-leb a b h, ne_eqb a b (λ q. omega arith))
    both a b (no g) (no h) = rw (le-leb a b (omega (arith, h)), le-leb b a (omega (arith, g)), eq-eqb a b (omega (arith, g, h)))

pub equal-key : (x y : Float) → T (finite x) → T (finite y) → T (equal x y) → key x ≡ key y
equal-key x y p q t = eqb→eq (key x) (key y) (subst (λ (b : Bool). T b) (equal_is x y p q) t)

pub smaller-unequal : (x y : Float) → T (finite x) → T (finite y) → T (at_most x y) → equal y x ≡ false → T (smaller x y)
smaller-unequal x y p q t e =
    let le = leb→le (key x) (key y) (subst (λ (b : Bool). T b) (at_most-key x y p q) t) in
    let ne = eqb-false (key y) (key x) (sym (equal_is y x q p) ∙ e) in
    true-T (smaller x y) (smaller-key x y p q ∙ lt-ltb (key x) (key y) (omega (arith, le, ne)))

-- a value equals itself
pub equal-self : (x : Float) → T (finite x) → equal x x ≡ true
equal-self x p = equal_is x x p p ∙ eq-eqb (key x) (key x) refl

-- ---- plus zero for either zero

-- minus zero and zero are equal, and the one that is given is plus zero
pub zeros_equal : (smaller (fin true 0 (pos 0)) plus_zero ≡ false) × (smaller plus_zero (fin true 0 (pos 0)) ≡ false) × (with_plus_zero (fin true 0 (pos 0)) ≡ plus_zero)
unfolding lt eq div with_plus_zero
zeros_equal = (refl, refl, refl)

pub zero-finite : T (finite plus_zero)
unfolding finite fits
zero-finite = tt

-- what holds of a value and of plus zero holds of it with plus zero for either zero
pub with_plus_zero-keeps : (p : Float → Bool) → T (p plus_zero) → (x : Float) → T (p x) → T (p (with_plus_zero x))
unfolding with_plus_zero
with_plus_zero-keeps p z nan t = t
with_plus_zero-keeps p z (inf s) t = t
with_plus_zero-keeps p z (fin s zero e) t = z
with_plus_zero-keeps p z (fin s (suc m) e) t = t

pub with_plus_zero-finite : (x : Float) → T (finite x) → T (finite (with_plus_zero x))
with_plus_zero-finite = with_plus_zero-keeps finite zero-finite

pub zero-mag : (f : Format) (e : ℤ) → mag f 0 e ≡ 0
zero-mag f e = rw (zero-mul (up e), zero-mul (2 ^ low f)) (native.Mathlib.Nat.zero-div (down e))

zero-signed : (s : Bool) (B x : ℕ) → x ≡ 0 → signed B s x ≡ B
zero-signed false B x h = omega arith
zero-signed true B x h = omega arith

pub with_plus_zero-key : (x : Float) → key (with_plus_zero x) ≡ key x
unfolding with_plus_zero key
with_plus_zero-key nan = refl
with_plus_zero-key (inf s) = refl
with_plus_zero-key (fin s zero e) =
    zero-signed false (overflow binary64) (mag binary64 0 (pos 0)) (zero-mag binary64 (pos 0)) ∙ sym (zero-signed s (overflow binary64) (mag binary64 0 e) (zero-mag binary64 e))
with_plus_zero-key (fin s (suc m) e) = refl

pub equal-with_plus_zero : (x y : Float) → T (finite x) → T (finite y) → equal x (with_plus_zero y) ≡ equal x y
equal-with_plus_zero x y p q = equal_is x (with_plus_zero y) p (with_plus_zero-finite y q) ∙ ap (eqb (key x)) (with_plus_zero-key y) ∙ sym (equal_is x y p q)

pub with_plus_zero-twice : (x : Float) → with_plus_zero (with_plus_zero x) ≡ with_plus_zero x
unfolding with_plus_zero
with_plus_zero-twice nan = refl
with_plus_zero-twice (inf s) = refl
with_plus_zero-twice (fin s zero e) = refl
with_plus_zero-twice (fin s (suc m) e) = refl

-- the bits of a value are made of its sign and its magnitude
same-mag : (f : Format) (s : Bool) (m : ℕ) (e : ℤ) (n : ℕ) (d : ℤ) → T (fits f (fin s m e)) → T (fits f (fin s n d)) → mag f m e ≡ mag f n d → fin s m e ≡ fin s n d
unfolding to_bits
same-mag f s m e n d t u h = sym (of_bits-to_bits f (fin s m e) t) ∙ ap (of_bits f) bits ∙ of_bits-to_bits f (fin s n d) u
  where
    bits : to_bits f (fin s m e) ≡ to_bits f (fin s n d)
    bits = ap (λ (z : ℕ). let k = lib.Ieee.size z - prec f in cond s (top f) 0 + k * hid f + z / 2 ^ k) h

-- a magnitude of zero is zero's
pub no-mag : (f : Format) (s : Bool) (m : ℕ) (e : ℤ) → T (fits f (fin s m e)) → mag f m e ≡ 0 → m ≡ 0
no-mag f s zero e t h = refl
no-mag f s (suc m) e t h =
    absurd (let p : 0 < suc m * up e * 2 ^ low f = mul-pos (mul-pos (omega arith) (lib.Ieee.Fits.up_pos e)) (pow_pos (low f)) in
    let q : mag f (suc m) e * down e ≡ 0 = ap (λ (z : ℕ). z * down e) h ∙ zero-mul (down e) in
    omega (arith, mag-val f s (suc m) e t, p, q))

either-zero : (s t : Bool) (m n : ℕ) (e d : ℤ) → m ≡ 0 → n ≡ 0 → with_plus_zero (fin s m e) ≡ with_plus_zero (fin t n d)
unfolding with_plus_zero
either-zero s t zero zero e d p q = refl
either-zero s t zero (suc n) e d p q = absurd (omega arith)
either-zero s t (suc m) n e d p q = absurd (omega arith)

pub with_plus_zero-same : (x y : Float) → T (finite x) → T (finite y) → key x ≡ key y → with_plus_zero x ≡ with_plus_zero y
unfolding finite key
with_plus_zero-same nan y p q h = absurd p
with_plus_zero-same (inf s) y p q h = absurd p
with_plus_zero-same (fin s m e) nan p q h = absurd q
with_plus_zero-same (fin s m e) (inf t) p q h = absurd q
with_plus_zero-same (fin s m e) (fin t n d) p q h =
    go s t (overflow binary64) (mag binary64 m e) (mag binary64 n d) (mag-lt binary64 s m e p) (mag-lt binary64 t n d q) h
    (λ r i. by_sign r i) (λ i j. either-zero s t m n e d (no-mag binary64 s m e p i) (no-mag binary64 t n d q j))
  where
    by_sign : s ≡ t → mag binary64 m e ≡ mag binary64 n d → with_plus_zero (fin s m e) ≡ with_plus_zero (fin t n d)
    by_sign r i = ap with_plus_zero (same-mag binary64 s m e n d p (subst (λ (b : Bool). T (fits binary64 (fin b n d))) (sym r) q) i ∙ ap (λ (b : Bool). fin b n d) r)

    go : (s t : Bool) (B x y : ℕ) → x < B → y < B → signed B s x ≡ signed B t y → {G : Type 0} → (s ≡ t → x ≡ y → G) → (x ≡ 0 → y ≡ 0 → G) → G
    go false false B x y a b h f g = f refl (omega arith)
    go false true B x y a b h f g = g (omega arith) (omega arith)
    go true false B x y a b h f g = g (omega arith) (omega arith)
    go true true B x y a b h f g = f refl (omega arith)

-- equal values without a minus sign on zero are the same
pub equal-same : (x y : Float) → T (finite x) → T (finite y) → with_plus_zero x ≡ x → with_plus_zero y ≡ y → T (equal x y) → x ≡ y
equal-same x y p q a b t = sym a ∙ with_plus_zero-same x y p q (equal-key x y p q t) ∙ b
