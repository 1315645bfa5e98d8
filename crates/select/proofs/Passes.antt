-- The m-th smallest, bit by bit.
--   answer-finite      the m-th smallest of finite values is finite
--   one-pass           a pass makes one bit more that of the m-th smallest's place
--   shared-bits        bits that all members left share are those of that place
--   search-bits        a search has all bits but its free ones right; with each pass fewer are free, so that there are at most 64
--   after-passes       after p passes the top p bits held are those of that place
--   settled            with no bit free it is that place; settled-by-64: so it is after 64 passes
--   value-held         the value at that place is the m-th smallest
use Prim.Native.Nat.{ℕ, suc, ◌+◌, ◌-◌, ◌*◌, ◌/◌, ◌^◌, ◌≤◌, ◌<◌}
use native.Mathlib.Omega.{arith}
use native.Mathlib.Nat.{mul_assoc, mul_comm, suc-mul, zero-mul, mul-one, div-one, div-div-eq-div-mul, le-div_iff_mul-le, pow-suc, div-eq_of_lt, div-mul-le_self, mod-lt}
use native.Mathlib.Numerals.{add-one}
use native.Mathlib.Decide.{dec_lt}
use mathlib.Core.Path.{◌≡◌, sym, ap, subst, ◌∙◌}
use mathlib.Core.Logic.{◌↔◌}
use mathlib.Core.Bool.{cond}
use mathlib.Core.List.{List}
use lib.ListN.{length}
use lib.Dec.{T, ltb, leb, eqb, ltb→lt, lt→ltb, leb→le, le→leb, eqb→eq}
use lib.Pow.{pow_pos, split, shl-shr, shr-shr}
use lib.Ieee.{Float}
use borrow.Author.Tests.{lt-ltb, le-ltb}
use Rattle.order.specs.Order.{finite, with_plus_zero}
use Rattle.order.specs.Counting.{count, all}
use Rattle.order.specs.Places.{place, value_at}
use Rattle.order.proofs.Booleans.{and_both, not-below, not_within, then-holds}
use Rattle.order.proofs.Counts.{count-le, all-le}
use Rattle.order.proofs.Keys.{key, key-some, zero-finite}
use Rattle.order.proofs.Places.{place-rises, place-fits, place-plain}
use Rattle.order.proofs.ValueAt.{value_at-place}
use Rattle.order.proofs.Rows.{Finite}
use Rattle.select.specs.Rank.{mth_smallest}
use Rattle.select.specs.Passes.{lower, top_bits, left_at, shares_top, passed, Search, begun, one_bit, all-shared}
use Rattle.select.proofs.Ranks.{mth_smallest-law, mth_smallest-keeps, mth_smallest-holds, mth_smallest-plain}

-- ---- bits of a number

-- with the bit of weight w free, and all above it held
module _ (a w : ℕ) (p : 0 < w) where
  twice : a / (w * 2) * (w * 2) ≡ a / w / 2 * 2 * w
  twice = ap (λ (z : ℕ). z * (w * 2)) (sym (div-div-eq-div-mul a w 2)) ∙ ap (λ (z : ℕ). a / w / 2 * z) (mul_comm w 2) ∙ sym (mul_assoc (a / w / 2) 2 w)

  bit-set : a / (w * 2) * (w * 2) + w ≤ a → a / (w * 2) * (w * 2) + w ≡ a / w * w
  bit-set h =
      let n = a / w in
      let q : n / 2 * 2 + 1 ≤ n = (le-div_iff_mul-le p).1 (omega (arith, twice, suc-mul (n / 2 * 2) w, ap (λ (z : ℕ). z * w) (add-one (n / 2 * 2)))) in
      let e : n ≡ suc (n / 2 * 2) = omega arith in
      omega (arith, twice, suc-mul (n / 2 * 2) w, ap (λ (z : ℕ). z * w) e)

  bit-clear : (a / (w * 2) * (w * 2) + w ≤ a → ⊥) → a / (w * 2) * (w * 2) ≡ a / w * w
  bit-clear h =
      let n = a / w in
      let q : n < n / 2 * 2 + 1 = not_within (n / 2 * 2 + 1) n (λ g. h (omega (arith, twice, suc-mul (n / 2 * 2) w, (le-div_iff_mul-le p).0 g, ap (λ (z : ℕ). z * w) (add-one (n / 2 * 2))))) in
      let e : n ≡ n / 2 * 2 = omega arith in
      omega (arith, twice, ap (λ (z : ℕ). z * w) e)

-- a number lies less than 2 ^ o above its top bits
within : (o a : ℕ) → (top_bits o a ≤ a) × (a < top_bits o a + 2 ^ o)
within o a = (div-mul-le_self a (2 ^ o), omega (arith, split a o, mod-lt a (pow_pos o)))

-- with no bit free it is the number, with all free it is zero
all-bits : (a : ℕ) → top_bits 0 a ≡ a
all-bits a = mul-one (a / 1) ∙ div-one a

no_bits : (o a : ℕ) → a < 2 ^ o → top_bits o a ≡ 0
no_bits o a h = ap (λ (q : ℕ). q * 2 ^ o) (div-eq_of_lt h) ∙ zero-mul (2 ^ o)

-- clearing fewer bits first changes nothing
fewer-bits : (o f a : ℕ) → f ≤ o → top_bits o (top_bits f a) ≡ top_bits o a
fewer-bits o f a h =
    let e : f + (o - f) ≡ o = omega arith in
    let down : (b : ℕ) → b / 2 ^ o ≡ b / 2 ^ f / 2 ^ (o - f) = λ b. sym (shr-shr b f (o - f) ∙ ap (λ (z : ℕ). b / 2 ^ z) e) in
    ap (λ (z : ℕ). z * 2 ^ o) (down (top_bits f a) ∙ ap (λ (z : ℕ). z / 2 ^ (o - f)) (shl-shr (a / 2 ^ f) f) ∙ sym (down a))

-- ---- passes over members

pub answer-finite : (m : ℕ) (xs : List Float) → Finite xs → T (finite (mth_smallest m xs))
answer-finite = mth_smallest-keeps finite zero-finite

module _ (m : ℕ) (xs : List Float) (fs : Finite xs) (pos : 0 < m) (many : m ≤ length xs) where
  few-lower : (p : ℕ) → p ≤ place (mth_smallest m xs) → lower p xs < m
  few-lower p h =
      let a = mth_smallest m xs in
      let f = answer-finite m xs fs in
      let k = key-some a f in
      omega (
        arith,
        (mth_smallest-law m xs fs pos many (key a - 1)).0 (omega arith),
        count-le finite (λ x. ltb (place x) p) (λ x. leb (key x) (key a - 1)) xs
            (λ x g t. le→leb (key x) (key a - 1) (omega (arith, (place-rises x a g f).1 (omega (arith, ltb→lt (place x) p t)))))
            fs,
      )

  many-lower : (p : ℕ) → place (mth_smallest m xs) < p → m ≤ lower p xs
  many-lower p h =
      let a = mth_smallest m xs in
      let f = answer-finite m xs fs in
      omega (
        arith,
        not-below (count (λ x. leb (key x) (key a)) xs) m (λ g. omega (arith, (mth_smallest-law m xs fs pos many (key a)).1 g)),
        count-le finite (λ x. leb (key x) (key a)) (λ x. ltb (place x) p) xs
            (λ x g t. lt→ltb (place x) p (omega (arith, not-below (place a) (place x) (λ l. omega (arith, leb→le (key x) (key a) t, (place-rises a x f g).1 l)))))
            fs,
      )

  -- a place is at most the m-th smallest's exactly where fewer than m members stand below it
  lower-law : (p : ℕ) → (p ≤ place (mth_smallest m xs)) ↔ (lower p xs < m)
  lower-law p = (few-lower p, λ h. not-below (place (mth_smallest m xs)) p (λ g. omega (arith, many-lower p g)))

  pub one-pass : (o h : ℕ) → h ≡ top_bits (suc o) (place (mth_smallest m xs)) → passed m xs o h ≡ top_bits o (place (mth_smallest m xs))
  unfolding passed
  one-pass o h e = go (dec_lt (lower (h + 2 ^ o) xs) m)
    where
      a : ℕ
      a = place (mth_smallest m xs)

      q : h ≡ a / (2 ^ o * 2) * (2 ^ o * 2)
      q = e ∙ ap (λ (w : ℕ). a / w * w) (pow-suc 2 o)

      go : Dec (lower (h + 2 ^ o) xs < m) → cond (ltb (lower (h + 2 ^ o) xs) m) (h + 2 ^ o) h ≡ top_bits o a
      go (yes g) = rw (lt-ltb (lower (h + 2 ^ o) xs) m g) (ap (λ (z : ℕ). z + 2 ^ o) q ∙ bit-set a (2 ^ o) (pow_pos o) (omega (arith, q, (lower-law (h + 2 ^ o)).1 g)))
      go (no g) = rw (le-ltb (lower (h + 2 ^ o) xs) m (omega (arith, g))) (q ∙ bit-clear a (2 ^ o) (pow_pos o) (λ l. g ((lower-law (h + 2 ^ o)).0 (omega (arith, q)))))

  pub shared-bits : (f h o q : ℕ) → h ≡ top_bits f (place (mth_smallest m xs)) → T (all (shares_top h f o q) xs) → q ≡ top_bits o (place (mth_smallest m xs))
  shared-bits f h o q e t =
      let a = place (mth_smallest m xs) in
      let w = within f a in
      sym (eqb→eq (top_bits o a) q
      (then-holds (left_at h f a) (eqb (top_bits o a) q)
      (mth_smallest-holds m xs fs pos many (shares_top h f o q) (all-le (shares_top h f o q) (λ x. shares_top h f o q (with_plus_zero x)) xs (λ x l. rw (place-plain x) l) t))
      (and_both (leb h a) (ltb a (h + 2 ^ f)) (le→leb h a (omega (arith, w.0))) (lt→ltb a (h + 2 ^ f) (omega (arith, w.1))))))

  -- ---- searches

  pub search-bits : {p h f : ℕ} → Search m xs p h f → (p + f ≤ 64) × (h ≡ top_bits f (place (mth_smallest m xs)))
  search-bits begun = (omega arith, sym (no_bits 64 (place (mth_smallest m xs)) (place-fits (mth_smallest m xs) (answer-finite m xs fs))))
  search-bits (one_bit {p} {h} {f} s) = let b = search-bits s in (omega (arith, b.0), one-pass f h b.1)
  search-bits (all-shared {p} {h} {f} {o} {q} s l t) = let b = search-bits s in (omega (arith, b.0), shared-bits f h o q b.1 t)

  pub after-passes : {p h f : ℕ} → Search m xs p h f → top_bits (64 - p) h ≡ top_bits (64 - p) (place (mth_smallest m xs))
  after-passes {p} {h} {f} s =
      let b = search-bits s in
      ap (top_bits (64 - p)) b.1 ∙ fewer-bits (64 - p) f (place (mth_smallest m xs)) (omega (arith, b.0))

  pub settled : {p h : ℕ} → Search m xs p h 0 → h ≡ place (mth_smallest m xs)
  settled s = (search-bits s).1 ∙ all-bits (place (mth_smallest m xs))

  pub settled-by-64 : {h f : ℕ} → Search m xs 64 h f → h ≡ place (mth_smallest m xs)
  settled-by-64 {h} {f} s =
      let none : f ≡ 0 = omega (arith, (search-bits s).0) in
      settled (subst (λ (o : ℕ). Search m xs 64 h o) none s)

  pub value-held : (h : ℕ) → h ≡ place (mth_smallest m xs) → value_at h ≡ mth_smallest m xs
  value-held h e = ap value_at e ∙ value_at-place (mth_smallest m xs) (answer-finite m xs fs) ∙ mth_smallest-plain m xs
