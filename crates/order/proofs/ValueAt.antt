-- The value at a place.
--   below-value_at    what is smaller than the value at a place stands below that place
--   value_at-place    the value at a finite value's place is that value, with plus zero for either zero
--   value_at-high, value_at-low, value_at-number, value_at-within  what the code tests
use Prim.Native.Nat.{ℕ, zero, suc, ◌+◌, ◌-◌, ◌*◌, ◌%◌, ◌^◌, ◌≤◌, ◌<◌}
use native.Mathlib.Omega.{arith}
use native.Mathlib.Nat.{mod-eq_of_lt, mod-eq-sub-mod}
use native.Mathlib.Decide.{dec_lt}
use mathlib.Core.Path.{◌≡◌, refl, sym, ap, ◌∙◌}
use mathlib.Core.Logic.{◌⊎◌, inl, inr}
use mathlib.Core.Bool.{true, false, not, cond}
use lib.IntN.{pos}
use lib.Dec.{T, ltb}
use lib.Ieee.{Float, nan, inf, fin, binary64, hid, top, ones, to_bits, of_bits, fits, is_nan, nan_bits, lt}
use lib.Ieee.Bits.{of_bits-to_bits, to_bits-of_bits, to_bits-lt, of_bits-fits, nan_bits_is, nan_bits_above}
use borrow.Author.Tests.{lt-ltb, le-ltb, le-leb, lt-leb}
use Rattle.order.specs.Order.{smaller, finite, with_plus_zero}
use Rattle.order.specs.Places.{bits_place, place, bits_at, value_at}
use Rattle.order.proofs.Booleans.{iff-ltb, never, true-T, not_within}
use Rattle.order.proofs.Infinities.{all-below, finite-fits}
use Rattle.order.proofs.Keys.{with_plus_zero-finite, zero-mag}
use Rattle.order.proofs.Patterns.{packed, pattern}
use Rattle.order.proofs.Places.{place-smaller, place-bounds, place-gap}

-- ---- the value at a place

-- what a pattern between those of the infinities stands for
module _ (H I p : ℕ) (some : 0 < I) (l : H - 1 - I < p) (g : p < I + H) (w : I < H) where
  pattern-back : (b : ℕ) → b ≡ cond (ltb p H) (2 * H - 1 - p) (p - H) → (b < 2 * H) × (b % H < I) × (cond (ltb b H) (b + H) (2 * H - 1 - b) ≡ p)
  pattern-back b q = go (dec_lt p H)
    where
      go : Dec (p < H) → (b < 2 * H) × (b % H < I) × (cond (ltb b H) (b + H) (2 * H - 1 - b) ≡ p)
      go (yes h) =
          let e : b ≡ 2 * H - 1 - p = rw (lt-ltb p H h) at q in
          let r : b % H ≡ H - 1 - p = mod-eq-sub-mod (omega arith) ∙ ap (λ (z : ℕ). z % H) (omega arith) ∙ mod-eq_of_lt (omega arith) in
          (omega arith, omega arith, rw (le-ltb b H (omega arith)) (omega arith))
      go (no h) =
          let e : b ≡ p - H = rw (le-ltb p H (omega (arith, h))) at q in
          let r : b % H ≡ b = mod-eq_of_lt (omega arith) in
          (omega arith, omega arith, rw (lt-ltb b H (omega arith)) (omega (arith, h)))

-- a value whose pattern is b stands at b's place, but for minus zero, which stands one higher
Stands : ℕ → Float → Type 0
Stands b v = T (finite v) × ((place v ≡ bits_place b) ⊎ ((bits_place b ≡ 2 ^ 63 - 1) × (place v ≡ 2 ^ 63)))

stands_at : (b : ℕ) (v : Float) → T (fits binary64 v) → to_bits binary64 v ≡ b → b % top binary64 < ones binary64 * hid binary64 → is_nan v ≡ false → Stands b v
unfolding Stands finite place with_plus_zero bits_place is_nan to_bits
stands_at b nan t q l n = absurd (never true n tt)
stands_at b (inf true) t q l n = absurd (let r : b % top binary64 ≡ ones binary64 * hid binary64 = ap (λ (z : ℕ). z % top binary64) (sym q) in omega arith)
stands_at b (inf false) t q l n = absurd (let r : b % top binary64 ≡ ones binary64 * hid binary64 = ap (λ (z : ℕ). z % top binary64) (sym q) in omega arith)
stands_at b (fin s (suc m) e) t q l n = (t, inl (ap bits_place q))
stands_at b (fin false zero e) t q l n = (t, inl (ap bits_place (pattern binary64 false 0 (pos 0) ∙ ap (λ (z : ℕ). 0 + packed binary64 z) (zero-mag binary64 (pos 0) ∙ sym (zero-mag binary64 e)) ∙ sym (pattern binary64 false 0 e) ∙ q)))
stands_at b (fin true zero e) t q l n = (t, inr (ap bits_place (sym q ∙ pattern binary64 true 0 e ∙ ap (λ (z : ℕ). top binary64 + packed binary64 z) (zero-mag binary64 e)), refl))

module _ (p : ℕ) (l : place (inf true) < p) (g : p < place (inf false)) where
  facts : (bits_at p < 2 * top binary64) × (bits_at p % top binary64 < ones binary64 * hid binary64) × (bits_place (bits_at p) ≡ p)
  unfolding place bits_place bits_at to_bits with_plus_zero
  facts = pattern-back (2 ^ 63) (ones binary64 * hid binary64) p (omega arith) l g (omega arith) (bits_at p) refl

  a-number : is_nan (of_bits binary64 (bits_at p)) ≡ false
  a-number = sym (nan_bits_is binary64 (bits_at p)) ∙ nan_bits_above binary64 (bits_at p) ∙ le-ltb (ones binary64 * hid binary64) (bits_at p % top binary64) (omega (arith, facts.1))

  within : Stands (bits_at p) (of_bits binary64 (bits_at p))
  within = stands_at (bits_at p) (of_bits binary64 (bits_at p)) (of_bits-fits binary64 (bits_at p))
      (to_bits-of_bits binary64 (bits_at p) facts.0 (true-T (not (is_nan (of_bits binary64 (bits_at p)))) (ap not a-number))) facts.1 a-number

  below-within : (x : Float) → T (finite x) → smaller x (of_bits binary64 (bits_at p)) ≡ ltb (place x) p
  unfolding Stands
  below-within x u = go within.1
    where
      v : Float
      v = of_bits binary64 (bits_at p)

      go : (place v ≡ bits_place (bits_at p)) ⊎ ((bits_place (bits_at p) ≡ 2 ^ 63 - 1) × (place v ≡ 2 ^ 63)) → smaller x v ≡ ltb (place x) p
      go (inl q) = place-smaller x v u within.0 ∙ ap (ltb (place x)) (q ∙ facts.2)
      go (inr q) =
          place-smaller x v u within.0
          ∙ iff-ltb (place x) (place v) (place x) p (λ h. not_within p (place x) (λ k. place-gap x u (omega (arith, facts.2))), λ h. omega (arith, facts.2))

none_below : (x : Float) → T (finite x) → smaller x (inf true) ≡ false
unfolding finite lt
none_below nan f = absurd f
none_below (inf s) f = absurd f
none_below (fin s m e) f = refl

pub below-value_at : (p : ℕ) (x : Float) → T (finite x) → smaller x (value_at p) ≡ ltb (place x) p
unfolding value_at
below-value_at p x u = go (dec_lt p (place (inf false))) (dec_lt (place (inf true)) p)
  where
    go : Dec (p < place (inf false)) → Dec (place (inf true) < p) → smaller x (value_at p) ≡ ltb (place x) p
    go (no g) h = rw (le-leb (place (inf false)) p (omega (arith, g)), all-below x u, lt-ltb (place x) p (omega (arith, g, (place-bounds x u).1)))
    go (yes g) (no h) = rw (lt-leb (place (inf false)) p g, le-leb p (place (inf true)) (omega (arith, h)), none_below x u, le-ltb (place x) p (omega (arith, h, (place-bounds x u).0)))
    go (yes g) (yes h) = rw (lt-leb (place (inf false)) p g, lt-leb p (place (inf true)) h) (below-within p h g x u)

round_trip : (H b : ℕ) → b < 2 * H → (p : ℕ) → p ≡ cond (ltb b H) (b + H) (2 * H - 1 - b) → cond (ltb p H) (2 * H - 1 - p) (p - H) ≡ b
round_trip H b l p q = go (dec_lt b H)
  where
    go : Dec (b < H) → cond (ltb p H) (2 * H - 1 - p) (p - H) ≡ b
    go (yes h) = let e : p ≡ b + H = rw (lt-ltb b H h) at q in rw (le-ltb p H (omega arith)) (omega arith)
    go (no h) = let e : p ≡ 2 * H - 1 - b = rw (le-ltb b H (omega (arith, h))) at q in rw (lt-ltb p H (omega (arith, h))) (omega (arith, h))

pub value_at-place : (x : Float) → T (finite x) → value_at (place x) ≡ with_plus_zero x
unfolding value_at place bits_place bits_at
value_at-place x u =
    rw (lt-leb (place (inf false)) (place x) (place-bounds x u).1, lt-leb (place x) (place (inf true)) (place-bounds x u).0)
    (ap (of_bits binary64) (round_trip (2 ^ 63) (to_bits binary64 (with_plus_zero x)) (to_bits-lt binary64 (with_plus_zero x) f) (place x) refl) ∙ of_bits-to_bits binary64 (with_plus_zero x) f)
  where
    f : T (fits binary64 (with_plus_zero x))
    f = finite-fits (with_plus_zero x) (with_plus_zero-finite x u)

-- ---- what the code tests

pub value_at-high : (p : ℕ) → place (inf false) ≤ p → inf false ≡ value_at p
unfolding value_at
value_at-high p h = rw (le-leb (place (inf false)) p h)

pub value_at-low : (p : ℕ) → p < place (inf false) → p ≤ place (inf true) → inf true ≡ value_at p
unfolding value_at
value_at-low p g h = rw (lt-leb (place (inf false)) p g, le-leb p (place (inf true)) h)

module _ (p : ℕ) (g : p < place (inf false)) (h : place (inf true) < p) (b : ℕ) (e : b ≡ bits_at p) where
  pub value_at-number : T (not (nan_bits binary64 b))
  value_at-number = true-T (not (nan_bits binary64 b)) (ap (λ (z : ℕ). not (nan_bits binary64 z)) e ∙ ap not (nan_bits_is binary64 (bits_at p) ∙ a-number p h g))

  pub value_at-within : of_bits binary64 b ≡ value_at p
  unfolding value_at
  value_at-within = rw (lt-leb (place (inf false)) p g, lt-leb p (place (inf true)) h) (ap (of_bits binary64) e)
