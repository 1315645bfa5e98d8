-- Floats that are whole numbers are subtracted as integers are.
--   sub-rounds      in any format, of whole numbers up to 2^prec: the difference of the integers, rounded
-- `add` puts both values over one denominator c, where a whole number n is n * c / c, and `round` sees only what a fraction is worth.
-- No bound on the difference is used: beyond 2^53 both sides round it alike.
use Prim.Native.Nat.{ℕ, zero, suc, ◌+◌, ◌-◌, ◌*◌, ◌^◌, ◌≤◌, ◌<◌}
use native.Mathlib.Omega.{arith}
use native.Mathlib.Decide.{dec_lt}
use native.Mathlib.Nat.{add-mul, add-zero, mul-one, mul_comm, mul_assoc, mul-sub, mul-pos, mul-le-mul_right, mul-lt-mul_of_pos_right, zero-lt-suc}
use mathlib.Core.Path.{◌≡◌, refl, sym, ap, ◌∙◌}
use mathlib.Core.Bool.{Bool, true, false, not, cond}
use lib.Dec.{ltb}
use lib.IntN.{ℤ, pos, negsuc, nat_abs, sub_ℕ, ◌-ℤ◌, +ℤ_idr}
use lib.Ieee.{Float, nan, inf, fin, Format, prec, up, down, round, sum, add, sub, neg, of_int}
use lib.Ieee.Exact.{HasValue}
use lib.Ieee.Back.{round_whole}
use lib.Ieee.Fits.{down_pos}
use lib.Ieee.Scale.{round_same}
use borrow.Author.Tests.{ltb-true, ltb-false, lt-ltb, le-ltb}

-- ---- ±(a * c) / c + ±(b * c) / c is ±a + ±b

round-scaled : (f : Format) (s : Bool) (n c : ℕ) → 0 < c → round f s (n * c) c ≡ round f s n 1
round-scaled f s n c C = round_same f s (n * c) c n 1 C (zero-lt-suc 0) (mul-one (n * c))

ltb-scaled : (a b c : ℕ) → 0 < c → ltb (a * c) (b * c) ≡ ltb a b
ltb-scaled a b c C = elim (dec_lt a b) [
  | yes h ↦ lt-ltb (a * c) (b * c) (mul-lt-mul_of_pos_right h C) ∙ sym (lt-ltb a b h)
  | no n ↦ let h : b ≤ a = omega (arith, n) in le-ltb (a * c) (b * c) (mul-le-mul_right c h) ∙ sym (le-ltb a b h)
]

sub-scaled : (a b c : ℕ) → a * c - b * c ≡ (a - b) * c
sub-scaled a b c = rw (mul_comm a c, mul_comm b c, mul_comm (a - b) c) (sym (mul-sub c a b))

sum-scaled : (f : Format) (s : Bool) (a : ℕ) (t : Bool) (b c : ℕ) → 0 < c → sum f s (a * c) t (b * c) c ≡ sum f s a t b 1
unfolding sum
sum-scaled f s a t b c C = simp (← add-mul, sub-scaled, ltb-scaled, round-scaled)

-- ---- floats that are whole numbers: their sum, and the negative of one

scaled : (n a d e : ℕ) → n * 1 ≡ a * d → n * e ≡ a * (d * e)
scaled n a d e h = ap (λ (k : ℕ). k * e) (sym (mul-one n) ∙ h) ∙ mul_assoc a d e

add_at : (f : Format) (x y : Float) (s : Bool) (a : ℕ) (t : Bool) (b : ℕ) → HasValue x s a 1 → HasValue y t b 1 → add f x y ≡ sum f s a t b 1
unfolding add
add_at f nan y s a t b v w = absurd v
add_at f (inf r) y s a t b v w = absurd v
add_at f (fin r m e) nan s a t b v w = absurd w
add_at f (fin r m e) (inf q) s a t b v w = absurd w
add_at f (fin r m e) (fin q n d) s a t b v w =
    let x : m * up e * down d ≡ a * (down e * down d) = scaled (m * up e) a (down e) (down d) v.1 in
    let y : n * up d * down e ≡ b * (down e * down d) = scaled (n * up d) b (down d) (down e) w.1 ∙ ap (λ (k : ℕ). b * k) (mul_comm (down d) (down e)) in
    rw (v.0, w.0, x, y) (sum-scaled f s a t b (down e * down d) (mul-pos (down_pos e) (down_pos d)))

neg_value : (y : Float) (t : Bool) (b : ℕ) → HasValue y t b 1 → HasValue (neg y) (not t) b 1
unfolding neg
neg_value nan t b w = w
neg_value (inf q) t b w = w
neg_value (fin q n d) t b w = (ap not w.0, w.1)

negative : ℤ → Bool
negative (pos n) = false
negative (negsuc n) = true

whole-value : (f : Format) (z : ℤ) → nat_abs z ≤ 2 ^ prec f → HasValue (of_int f z) (negative z) (nat_abs z) 1
unfolding of_int negative
whole-value f (pos n) h = round_whole f false n h
whole-value f (negsuc n) h = round_whole f true (suc n) h

-- ---- the sum of two whole numbers, by their signs

plus-minus : (f : Format) (a b : ℕ) → sum f false a true b 1 ≡ of_int f (sub_ℕ a b)
unfolding sum of_int
plus-minus f a b = go (ltb a b) refl
  where
    go : (t : Bool) → ltb a b ≡ t → cond t (round f true (b - a) 1) (round f false (a - b) 1) ≡ of_int f (cond t (negsuc (b - suc a)) (pos (a - b)))
    go true p = ap (λ (n : ℕ). round f true n 1) (omega (arith, ltb-true a b p))
    go false p = refl

minus_plus : (f : Format) (a b : ℕ) → sum f true a false b 1 ≡ of_int f (sub_ℕ b a)
unfolding sum of_int
minus_plus f a b = go (ltb a b) (ltb b a) refl refl
  where
    go : (t u : Bool) → ltb a b ≡ t → ltb b a ≡ u → cond t (round f false (b - a) 1) (round f u (a - b) 1) ≡ of_int f (cond u (negsuc (a - suc b)) (pos (b - a)))
    go true true p q = absurd (omega (arith, ltb-true a b p, ltb-true b a q))
    go true false p q = refl
    go false true p q = ap (λ (n : ℕ). round f true n 1) (omega (arith, ltb-true b a q))
    go false false p q = ap (λ (n : ℕ). round f false n 1) (omega (arith, ltb-false a b p, ltb-false b a q))

-- -0 is the negative of the integer 0, and makes no difference
difference : (f : Format) (a b : ℤ) → sum f (negative a) (nat_abs a) (not (negative b)) (nat_abs b) 1 ≡ of_int f (a -ℤ b)
unfolding sum negative of_int
difference f (pos a) (pos zero) = let e : a - 0 ≡ a + 0 = omega arith in rw (le-ltb a 0 (omega arith), e)
difference f (pos a) (pos (suc b)) = plus-minus f a (suc b)
difference f (pos a) (negsuc b) = refl
difference f (negsuc a) (pos zero) = ap (λ (n : ℕ). round f true n 1) (add-zero (suc a)) ∙ ap (of_int f) (sym (+ℤ_idr (negsuc a)))
difference f (negsuc a) (pos (suc b)) = ap (λ (n : ℕ). round f true n 1) (omega arith)
difference f (negsuc a) (negsuc b) = minus_plus f (suc a) (suc b)

pub sub-rounds : (f : Format) (a b : ℤ) → nat_abs a ≤ 2 ^ prec f → nat_abs b ≤ 2 ^ prec f → sub f (of_int f a) (of_int f b) ≡ of_int f (a -ℤ b)
unfolding sub
sub-rounds f a b h k =
    add_at f (of_int f a) (neg (of_int f b)) (negative a) (nat_abs a) (not (negative b)) (nat_abs b) (whole-value f a h) (neg_value (of_int f b) (negative b) (nat_abs b) (whole-value f b k))
    ∙ difference f a b
