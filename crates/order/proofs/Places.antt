-- The 64-bit order is the order of the values.
--   place-smaller     a finite value stands lower exactly when it is smaller; place-equal: equal places are those of equal values
--   place-rises       the same by keys
--   place-plain       minus zero takes the place of zero
--   place-bounds      finite values stand between the infinities; place-fits: at 64-bit numbers
--   place-gap         nothing stands at the place of minus zero's own pattern
use Prim.Native.Nat.{ℕ, zero, suc, ◌+◌, ◌-◌, ◌*◌, ◌^◌, ◌≤◌, ◌<◌}
use native.Mathlib.Omega.{arith}
use native.Mathlib.Decide.{dec_lt}
use mathlib.Core.Path.{◌≡◌, refl, sym, ap, ◌∙◌}
use mathlib.Core.Logic.{◌↔◌}
use mathlib.Core.Bool.{Bool, true, false, cond}
use lib.IntN.{ℤ, pos}
use lib.Dec.{T, ltb}
use lib.Ieee.{Float, nan, inf, fin, Format, binary64, hid, ones, to_bits, fits}
use lib.Ieee.Scale.{overflow}
use borrow.Author.Tests.{lt-ltb, le-ltb}
use Rattle.order.specs.Order.{smaller, at_most, equal, finite, plus_zero, with_plus_zero}
use Rattle.order.specs.Places.{bits_place, place}
use Rattle.order.proofs.Booleans.{iff-ltb, never, true-T, and_both, not-below, not_within}
use Rattle.order.proofs.Keys.{mag, signed, mag-lt, key, smaller-key, at_most-le, equal-key, with_plus_zero-same, with_plus_zero-key, with_plus_zero-twice, no-mag}
use Rattle.order.proofs.Patterns.{packed, pattern, packed-lower, fits-sign, packed-top, packed-bound}

-- ---- where a finite value stands

-- so many places from zero's, H, on its side of it
abbrev placed : ℕ → Bool → ℕ → ℕ
placed H false n = n + H
placed H true n = H - 1 - n

record Placed (x : Float) : Type 0 where
  negative : Bool
  m : ℕ
  e : ℤ
  fit : T (fits binary64 (fin false m e))
  keyed : key x ≡ signed (overflow binary64) negative (mag binary64 m e)
  stands : place x ≡ placed (2 ^ 63) negative (packed binary64 (mag binary64 m e))
  apart : negative ≡ true → 0 < packed binary64 (mag binary64 m e)

from_bits : (s : Bool) (H b n : ℕ) → n < H → b ≡ cond s H 0 + n → cond (ltb b H) (b + H) (2 * H - 1 - b) ≡ placed H s n
from_bits false H b n l q = rw (lt-ltb b H (omega arith)) (omega arith)
from_bits true H b n l q = rw (le-ltb b H (omega arith)) (omega arith)

some-mag : (f : Format) (s : Bool) (m : ℕ) (e : ℤ) → T (fits f (fin s (suc m) e)) → 0 < mag f (suc m) e
some-mag f s m e t = not_within (mag f (suc m) e) 0 (λ g. omega (arith, no-mag f s (suc m) e t (omega arith)))

placed_at : (x : Float) → T (finite x) → Placed x
unfolding finite key place with_plus_zero bits_place
placed_at nan t = absurd t
placed_at (inf s) t = absurd t
placed_at (fin s zero e) t = record {
  negative = false;
  m = 0;
  e = pos 0;
  fit = tt;
  keyed = sym (with_plus_zero-key (fin s zero e));
  stands = from_bits false (2 ^ 63) (to_bits binary64 plus_zero) (packed binary64 (mag binary64 0 (pos 0))) (packed-top binary64 0 (pos 0) tt) (pattern binary64 false 0 (pos 0));
  apart = λ q. absurd (never false refl (true-T false q));
}
placed_at (fin s (suc m) e) t =
    let f : T (fits binary64 (fin false (suc m) e)) = fits-sign binary64 s false (suc m) e t in record {
      negative = s;
      m = suc m;
      e = e;
      fit = f;
      keyed = refl;
      stands = from_bits s (2 ^ 63) (to_bits binary64 (fin s (suc m) e)) (packed binary64 (mag binary64 (suc m) e)) (packed-top binary64 (suc m) e f) (pattern binary64 s (suc m) e);
      apart = λ _. omega (arith, packed-lower binary64 false 0 (pos 0) (suc m) e tt f (some-mag binary64 false m e f));
    }

-- ---- a value stands lower exactly when it is smaller

side : (s t : Bool) (B H a b p q : ℕ) → a < B → b < B → p < H → q < H → (a < b → p < q) → (b < a → q < p) → signed B s a < signed B t b → placed H s p < placed H t q
side false false B H a b p q i j k l f g h = omega (arith, f (omega arith))
side false true B H a b p q i j k l f g h = absurd (omega arith)
side true false B H a b p q i j k l f g h = omega arith
side true true B H a b p q i j k l f g h = omega (arith, g (omega arith))

module _ {x y : Float} (a : Placed x) (b : Placed y) where
  lower : key x < key y → place x < place y
  lower h =
      rw (a.stands, b.stands)
      (side a.negative b.negative (overflow binary64) (2 ^ 63) (mag binary64 a.m a.e) (mag binary64 b.m b.e) (packed binary64 (mag binary64 a.m a.e)) (packed binary64 (mag binary64 b.m b.e))
      (mag-lt binary64 false a.m a.e a.fit) (mag-lt binary64 false b.m b.e b.fit) (packed-top binary64 a.m a.e a.fit) (packed-top binary64 b.m b.e b.fit)
      (packed-lower binary64 false a.m a.e b.m b.e a.fit b.fit) (packed-lower binary64 false b.m b.e a.m a.e b.fit a.fit)
      (rw (← a.keyed, ← b.keyed) h))

module _ (x y : Float) (u : T (finite x)) (v : T (finite y)) where
  up_to : key x ≤ key y → place x ≤ place y
  unfolding place
  up_to h = go (dec_lt (key x) (key y))
    where
      go : Dec (key x < key y) → place x ≤ place y
      go (yes g) = omega (arith, lower (placed_at x u) (placed_at y v) g)
      go (no g) = omega (arith, ap (λ (z : Float). bits_place (to_bits binary64 z)) (with_plus_zero-same x y u v (omega (arith, g))))

module _ (x y : Float) (u : T (finite x)) (v : T (finite y)) where
  pub place-rises : (key x < key y) ↔ (place x < place y)
  place-rises = (lower (placed_at x u) (placed_at y v), λ h. not_within (key y) (key x) (λ g. omega (arith, up_to y x v u g)))

  pub place-smaller : smaller x y ≡ ltb (place x) (place y)
  place-smaller = smaller-key x y u v ∙ iff-ltb (key x) (key y) (place x) (place y) place-rises

  pub place-equal : T (equal x y) ↔ (place x ≡ place y)
  place-equal = (
    λ t. let q = equal-key x y u v t in omega (arith, up_to x y u v (omega arith), up_to y x v u (omega arith)),
    λ q. and_both (at_most x y) (at_most y x) (at_most-le x y u v (not-below (key y) (key x) (λ g. omega (arith, lower (placed_at y v) (placed_at x u) g)))) (at_most-le y x v u (not-below (key x) (key y) (λ g. omega (arith, lower (placed_at x u) (placed_at y v) g)))),
  )

pub place-plain : (x : Float) → place (with_plus_zero x) ≡ place x
unfolding place
place-plain x = ap (λ (z : Float). bits_place (to_bits binary64 z)) (with_plus_zero-twice x)

-- ---- between the infinities, and never at the place of minus zero's own pattern

between : (s : Bool) (H I n : ℕ) → n < I → I < H → (H - 1 - I < placed H s n) × (placed H s n < I + H)
between false H I n l k = omega arith
between true H I n l k = omega arith

apart-gap : (s : Bool) (H n : ℕ) → n < H → (s ≡ true → 0 < n) → placed H s n ≡ H - 1 → ⊥
apart-gap false H n l f q = omega arith
apart-gap true H n l f q = omega (arith, f refl)

module _ (x : Float) (u : T (finite x)) where
  pub place-bounds : (place (inf true) < place x) × (place x < place (inf false))
  unfolding place bits_place to_bits with_plus_zero
  place-bounds = go (placed_at x u)
    where
      go : Placed x → (place (inf true) < place x) × (place x < place (inf false))
      go a = rw a.stands (between a.negative (2 ^ 63) (ones binary64 * hid binary64) (packed binary64 (mag binary64 a.m a.e)) (packed-bound binary64 a.m a.e a.fit) (omega arith))

  -- a place is a 64-bit number
  pub place-fits : place x < 2 ^ 64
  unfolding place bits_place to_bits with_plus_zero
  place-fits = omega (arith, place-bounds.1)

  pub place-gap : place x ≡ 2 ^ 63 - 1 → ⊥
  place-gap = go (placed_at x u)
    where
      go : Placed x → place x ≡ 2 ^ 63 - 1 → ⊥
      go a q = apart-gap a.negative (2 ^ 63) (packed binary64 (mag binary64 a.m a.e)) (packed-top binary64 a.m a.e a.fit) a.apart (sym a.stands ∙ q)
