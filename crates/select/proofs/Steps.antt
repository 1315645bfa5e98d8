-- What the steps of the selection give.
--   bits-reach, rest-fits, cleared-is          how many bits a number has, and a number with its lowest bits zero
--   smaller-number                             what is smaller than anything is a number
--   gathered-..                                the bits that some patterns have set, and those that all have
--   none-held, free-most, none_free            before any pass; at most 64 bits are free; after the last pass
--   pass-room, pass_fits, passed_on            one pass, one bit more
--   shared-on                                  one pass, and all bits that the values left share
use Prim.Native.Nat.{ℕ, zero, suc, ◌+◌, ◌-◌, ◌*◌, ◌/◌, ◌%◌, ◌^◌, ◌≤◌, ◌<◌}
use native.Mathlib.Omega.{arith}
use native.Mathlib.Nat.{div-eq_of_lt, pow-suc}
use native.Mathlib.Numerals.{add-one}
use mathlib.Core.Path.{◌≡◌, refl, sym, ap, subst, ◌∙◌}
use mathlib.Core.Bool.{Bool, true, false, not, cond, ◌&&◌}
use mathlib.Core.List.{List, [], ◌∷◌}
use lib.ListN.{length, get_or, drop, drop_of_length-le}
use lib.Seq.{drop-cons}
use lib.Dec.{T, ltb, leb, eqb, ltb→lt, leb→le, le→leb}
use lib.Pow.{pow_pos, split, shr_mono}
use lib.Bits.{bit_and, bit_or, bit_xor, or_add_and, xor_add_and, and_le_l, and_le_r, xor_shr}
use lib.Count.{count_leading_zeros, leading_le, leading_length}
use lib.Ieee.{Float, nan, inf, fin, binary64, lt, is_nan, to_bits}
use borrow.Author.Tests.{lt-ltb, le-ltb, eq-eqb}
use Rattle.order.specs.Order.{finite, smaller, with_plus_zero}
use Rattle.order.specs.Counting.{count, all}
use Rattle.order.specs.Places.{place, bits_place, value_at}
use Rattle.order.proofs.Booleans.{never, true-T, and_left, and_right, and_both, if-holds}
use Rattle.order.proofs.Counts.{all-le, all_both, count_same}
use Rattle.order.proofs.Places.{place-fits}
use Rattle.order.proofs.ValueAt.{below-value_at}
use Rattle.order.proofs.SharedBits.{place-shares}
use Rattle.order.proofs.Powers.{top-room}
use Rattle.order.proofs.Rows.{Finite}
use Rattle.select.specs.Rank.{mth_smallest}
use Rattle.select.specs.Passes.{lower, top_bits, left_at, shares_top, passed, Search, begun, one_bit, all-shared}
use Rattle.select.specs.Internal.{chosen, gathered, any_bits, every_bits, Holds}
use Rattle.select.specs.declared.smallest.Held.{Held}
use Rattle.select.proofs.Passes.{answer-finite, search-bits, settled}

-- ---- bits of a number

pub bits-reach : (d : ℕ) → d < 2 ^ 64 → (count_leading_zeros 64 d ≤ 64) × (d < 2 ^ (64 - count_leading_zeros 64 d))
bits-reach d h =
    let l = leading_length 64 d h in
    let e : l.0 ≡ 64 - count_leading_zeros 64 d = omega (arith, l.1) in
    (leading_le 64 d, subst (λ (m : ℕ). d < 2 ^ m) e l.2)

pub rest-fits : (p o w : ℕ) → w ≡ 2 ^ o → p % w ≤ p
rest-fits p o w e = rw e (omega (arith, split p o))

pub cleared-is : (p o w : ℕ) → w ≡ 2 ^ o → p - p % w ≡ top_bits o p
cleared-is p o w e = rw e (omega (arith, split p o))

-- ---- the patterns of the values left

pub smaller-number : (x t : Float) → smaller x t ≡ true → {y : Float} → y ≡ with_plus_zero x → T (not (is_nan y))
unfolding lt with_plus_zero is_nan
smaller-number nan t l e = absurd (never false refl (true-T false l))
smaller-number (inf s) t l e = rw e tt
smaller-number (fin s zero k) t l e = rw e tt
smaller-number (fin s (suc m) k) t l e = rw e tt

joined-left : (a b : ℕ) → a ≤ bit_or a b
joined-left a b = omega (arith, or_add_and a b, and_le_r a b)

joined-right : (a b : ℕ) → b ≤ bit_or a b
joined-right a b = omega (arith, or_add_and a b, and_le_l a b)

xor-none : (a b : ℕ) → bit_xor a b ≡ 0 → a ≡ b
xor-none a b e = omega (arith, xor_add_and a b, and_le_l a b, and_le_r a b)

-- what lies between two numbers that differ in none of their top bits shares them
xor-top : (o a b c : ℕ) → bit_xor a b < 2 ^ o → b ≤ c → c ≤ a → c / 2 ^ o ≡ a / 2 ^ o
xor-top o a b c l h g =
    let e : a / 2 ^ o ≡ b / 2 ^ o = xor-none (a / 2 ^ o) (b / 2 ^ o) (sym (xor_shr a b o) ∙ div-eq_of_lt l) in
    omega (arith, shr_mono o h, shr_mono o g)

-- where joining with f only leads on along r, what is chosen of each member comes before the whole
module _ (f : ℕ → ℕ → ℕ) (lo hi : Float) (none : ℕ) where
  module _ (r : ℕ → ℕ → Bool) (same : (a : ℕ) → T (r a a)) (trans : (a b c : ℕ) → T (r a b) → T (r b c) → T (r a c)) (on-left : (a b : ℕ) → T (r a (f a b))) (on-right : (a b : ℕ) → T (r b (f a b))) where
    leads-on : (d : ℕ) (xs : List Float) → T (r d (gathered f lo hi none d xs))
    unfolding gathered
    leads-on d [] = same d
    leads-on d (x ∷ xs) = let c = chosen lo hi x none in trans d (f d c) (gathered f lo hi none (f d c) xs) (on-left d c) (leads-on (f d c) xs)

    gathered-all : (d : ℕ) (xs : List Float) (n : ℕ) → gathered f lo hi none d xs ≡ n → T (all (λ x. r (chosen lo hi x none) n) xs)
    unfolding gathered all
    gathered-all d [] n e = tt
    gathered-all d (x ∷ xs) n e =
        let c = chosen lo hi x none in
        and_both (r c n) (all (λ x. r (chosen lo hi x none) n) xs) (subst (λ (k : ℕ). T (r c k)) e (trans c (f d c) (gathered f lo hi none (f d c) xs) (on-right d c) (leads-on (f d c) xs))) (gathered-all (f d c) xs n e)

  -- one value more, and none
  module _ (xs : List Float) (i d : ℕ) {s : ℕ} where
    pub gathered-turn : {c : ℕ} → i < length xs → c ≡ chosen lo hi (get_or xs i nan) none → gathered f lo hi none d (drop i xs) ≡ s → gathered f lo hi none (f d c) (drop (i + 1) xs) ≡ s
    unfolding gathered
    gathered-turn h e q =
        let more : drop i xs ≡ get_or xs i nan ∷ drop (i + 1) xs = rw (add-one, drop-cons xs i nan) in
        ap (λ (z : ℕ). gathered f lo hi none (f d z) (drop (i + 1) xs)) e ∙ sym (ap (gathered f lo hi none d) more) ∙ q

    pub gathered-end : length xs ≤ i → gathered f lo hi none d (drop i xs) ≡ s → d ≡ s
    unfolding gathered
    gathered-end h q = let end : drop i xs ≡ [] = rw drop_of_length-le in sym (ap (gathered f lo hi none d) end) ∙ q

any-all : (lo hi : Float) (xs : List Float) (n : ℕ) → n ≡ any_bits lo hi xs → T (all (λ x. leb (chosen lo hi x 0) n) xs)
any-all lo hi xs n e =
    gathered-all bit_or lo hi 0 leb (λ a. le→leb a a (omega arith)) (λ a b c s t. le→leb a c (omega (arith, leb→le a b s, leb→le b c t)))
    (λ a b. le→leb a (bit_or a b) (joined-left a b)) (λ a b. le→leb b (bit_or a b) (joined-right a b)) 0 xs n (sym e)

every-all : (lo hi : Float) (xs : List Float) (n : ℕ) → n ≡ every_bits lo hi xs → T (all (λ x. leb n (chosen lo hi x (2 ^ 64 - 1))) xs)
every-all lo hi xs n e =
    gathered-all bit_and lo hi (2 ^ 64 - 1) (λ a b. leb b a) (λ a. le→leb a a (omega arith)) (λ a b c s t. le→leb c a (omega (arith, leb→le b a s, leb→le c b t)))
    (λ a b. le→leb (bit_and a b) a (and_le_l a b)) (λ a b. le→leb (bit_and a b) b (and_le_r a b)) (2 ^ 64 - 1) xs n (sym e)

-- ---- before any pass

pub none-held : (m : ℕ) (xs : List Float) (u v : ℕ) (b : Bool) → Holds m xs (record { place = 0; free = 64; under = u; upto = v; unsplit = b })
none-held m xs u v b = record { passes = 0; search = begun }

-- ---- one pass

lower-is : (xs : List Float) → Finite xs → (p : ℕ) → count (λ x. smaller x (value_at p)) xs ≡ lower p xs
lower-is xs fs p = count_same finite (λ x. smaller x (value_at p)) (λ x. ltb (place x) p) xs (λ x f. below-value_at p x f) fs

module _ (m : ℕ) (xs : List Float) (fs : Finite xs) (pos : 0 < m) (many : m ≤ length xs) (h : Held) (s : Holds m xs h) where
  bits : (s.passes + h.free ≤ 64) × (h.place ≡ top_bits h.free (place (mth_smallest m xs)))
  bits = search-bits m xs fs pos many s.search

  pub free-most : h.free ≤ 64
  free-most = omega (arith, bits.0)

  -- with no bit free
  pub none_free : h.free ≤ 0 → h.place ≡ place (mth_smallest m xs)
  none_free z =
      let none : h.free ≡ 0 = omega arith in
      settled m xs fs pos many (subst (λ (f : ℕ). Search m xs s.passes h.place f) none s.search)

  -- o is the next bit, of weight w, and p the place with it set
  module _ (g : 0 < h.free) (o w p : ℕ) (eo : o ≡ h.free - 1) (ew : w ≡ 2 ^ o) (ep : p ≡ h.place + w) where
    free-is : h.free ≡ suc o
    free-is = omega arith

    twice : 2 ^ h.free ≡ w + w
    twice = omega (arith, ap (λ (z : ℕ). 2 ^ z) free-is, pow-suc 2 o)

    room : h.place + 2 ^ h.free ≤ 2 ^ 64
    room = rw bits.1 (top-room 64 h.free (place (mth_smallest m xs)) free-most (place-fits (mth_smallest m xs) (answer-finite m xs fs)))

    pub pass-room : p + 2 ^ o ≤ 2 ^ 64
    pass-room = omega (arith, room, twice)

    pub pass_fits : h.place + w < 2 ^ 64
    pass_fits = omega (arith, pass-room, pow_pos o)

    module _ (n : ℕ) {v : Float} (ev : v ≡ value_at p) (en : n ≡ count (λ x. smaller x v) xs) (r : Held) (er : (r.place ≡ cond (ltb n m) p h.place) × (r.free ≡ h.free - 1)) where
      pass-is : r.place ≡ passed m xs (h.free - 1) h.place
      unfolding passed
      pass-is =
          let there : h.place + 2 ^ o ≡ p = omega arith in
          let counted : n ≡ lower p xs = en ∙ ap (λ (z : Float). count (λ x. smaller x z) xs) ev ∙ lower-is xs fs p in
          er.0 ∙ rw (← eo, there, counted)

      pub passed_on : (r.place ≡ passed m xs (h.free - 1) h.place) × (r.free ≡ h.free - 1) × Holds m xs r
      passed_on =
          let next : Search m xs (suc s.passes) (passed m xs o h.place) o = one_bit (subst (λ (f : ℕ). Search m xs s.passes h.place f) free-is s.search) in
          let here : passed m xs o h.place ≡ r.place = ap (λ (z : ℕ). passed m xs z h.place) eo ∙ sym pass-is in
          let free : o ≡ r.free = omega (arith, er.1) in
          (pass-is, er.1, record { passes = suc s.passes; search = subst (λ (f : ℕ). Search m xs (suc s.passes) r.place f) free (subst (λ (q : ℕ). Search m xs (suc s.passes) q o) here next) })

    -- ---- bits that all values left share

    module _ {lo hi : Float} (el : lo ≡ value_at h.place) (eh : hi ≡ value_at (p + 2 ^ o)) (any every : ℕ) (ea : any ≡ any_bits lo hi xs) (ee : every ≡ every_bits lo hi xs)
        (fit : any < 2 ^ 64) (l : ℕ) (few : l ≤ 64) (reach : bit_xor any every < 2 ^ l) where
      past : hi ≡ value_at (h.place + 2 ^ h.free)
      past = let e : p + 2 ^ o ≡ h.place + 2 ^ h.free = omega (arith, twice) in eh ∙ ap value_at e

      -- a value left is not below lo, and below hi
      chosen_is : (x : Float) → T (finite x) → T (left_at h.place h.free (place x)) → (d : ℕ) → chosen lo hi x d ≡ to_bits binary64 (with_plus_zero x)
      unfolding chosen
      chosen_is x f t d =
          let p = place x in
          let a = leb→le h.place p (and_left (leb h.place p) (ltb p (h.place + 2 ^ h.free)) t) in
          let b = ltb→lt p (h.place + 2 ^ h.free) (and_right (leb h.place p) (ltb p (h.place + 2 ^ h.free)) t) in
          rw (ap (smaller x) el ∙ below-value_at h.place x f ∙ le-ltb p h.place a, ap (smaller x) past ∙ below-value_at (h.place + 2 ^ h.free) x f ∙ lt-ltb p (h.place + 2 ^ h.free) b)

      shares : (x : Float) → T (finite x) → T (leb (chosen lo hi x 0) any) → T (leb every (chosen lo hi x (2 ^ 64 - 1))) → T (left_at h.place h.free (place x)) → top_bits l (place x) ≡ top_bits l (bits_place any)
      shares x f t u g =
          let b = to_bits binary64 (with_plus_zero x) in
          ap (λ (q : ℕ). q * 2 ^ l)
          (place-shares l few x f any fit
          (xor-top l any every b reach (omega (arith, leb→le every (chosen lo hi x (2 ^ 64 - 1)) u, chosen_is x f g (2 ^ 64 - 1))) (omega (arith, leb→le (chosen lo hi x 0) any t, chosen_is x f g 0))))

      all_share : T (all (shares_top h.place h.free l (top_bits l (bits_place any))) xs)
      all_share =
          all-le (λ x. finite x && (leb (chosen lo hi x 0) any && leb every (chosen lo hi x (2 ^ 64 - 1)))) (shares_top h.place h.free l (top_bits l (bits_place any))) xs each
          (all_both finite (λ x. leb (chosen lo hi x 0) any && leb every (chosen lo hi x (2 ^ 64 - 1))) xs fs
          (all_both (λ x. leb (chosen lo hi x 0) any) (λ x. leb every (chosen lo hi x (2 ^ 64 - 1))) xs (any-all lo hi xs any ea) (every-all lo hi xs every ee)))
        where
          each : (x : Float) → T (finite x && (leb (chosen lo hi x 0) any && leb every (chosen lo hi x (2 ^ 64 - 1)))) → T (shares_top h.place h.free l (top_bits l (bits_place any)) x)
          each x t =
              let A = leb (chosen lo hi x 0) any in
              let E = leb every (chosen lo hi x (2 ^ 64 - 1)) in
              let b = and_right (finite x) (A && E) t in
              if-holds (left_at h.place h.free (place x)) (eqb (top_bits l (place x)) (top_bits l (bits_place any)))
              (λ g. true-T (eqb (top_bits l (place x)) (top_bits l (bits_place any))) (eq-eqb (top_bits l (place x)) (top_bits l (bits_place any)) (shares x (and_left (finite x) (A && E) t) (and_left A E b) (and_right A E b) g)))

      pub shared-on : l < h.free → (q u v : ℕ) (b : Bool) → q ≡ top_bits l (bits_place any) → Holds m xs (record { place = q; free = l; under = u; upto = v; unsplit = b })
      shared-on k q u v b e = record { passes = suc s.passes; search = subst (λ (z : ℕ). Search m xs (suc s.passes) z l) (sym e) (all-shared s.search k all_share) }
