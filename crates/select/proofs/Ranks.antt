-- The counting laws: the k-th largest is above v exactly where at least k members are, and the m-th smallest where fewer than m are at most v.
-- Values are compared by their keys, so that all reasoning on the order is arithmetic.
--   above v xs, from v xs     how many members have a key larger than v, or no smaller than v
use Prim.Native.Nat.{ℕ, zero, suc, ◌+◌, ◌-◌, ◌≤◌, ◌<◌}
use native.Mathlib.Omega.{arith}
use native.Mathlib.Decide.{dec_le}
use mathlib.Core.Path.{◌≡◌, refl, sym, ap, ap₂, ◌∙◌, subst}
use mathlib.Core.Logic.{◌↔◌}
use mathlib.Core.Bool.{Bool, true, false, not, cond, ◌&&◌}
use mathlib.Core.List.{List, [], ◌∷◌}
use lib.ListN.{length}
use lib.Dec.{ltb, leb, eqb, T, ltb→lt, lt→ltb, leb→le, le→leb, eqb→eq}
use lib.Ieee.{Float}
use borrow.Author.Tests.{lt-ltb, le-ltb, le-leb, lt-leb, eq-eqb, ne_eqb}
use Rattle.order.specs.Order.{plus_zero, smaller, at_most, finite, with_plus_zero}
use Rattle.order.specs.Counting.{bit, count, all}
use Rattle.order.proofs.Booleans.{same_test, true-T, and_left, and_right, and_both, not-below, not_within, leb-not}
use Rattle.order.proofs.Keys.{key, smaller-key, at_most-key, with_plus_zero-key, with_plus_zero-same, with_plus_zero-twice, with_plus_zero-finite, with_plus_zero-keeps}
use Rattle.order.proofs.Rows.{Finite}
use Rattle.order.proofs.Counts.{count-le, count_same, count-same-all, count-le-all, count-not, count-both, count-length}
use Rattle.select.specs.Rank.{first, from_top, from_bottom, kth_largest, mth_smallest}

abbrev pub above : ℕ → List Float → ℕ
above v xs = count (λ x. ltb v (key x)) xs

abbrev pub from : ℕ → List Float → ℕ
from v xs = count (λ x. leb v (key x)) xs

-- ---- counts by keys

above-is : (xs : List Float) (v : Float) → Finite xs → T (finite v) → count (λ x. smaller v x) xs ≡ above (key v) xs
above-is xs v fs f = count_same finite (λ x. smaller v x) (λ x. ltb (key v) (key x)) xs (λ x g. smaller-key v x f g) fs

pub from_is : (xs : List Float) (v : Float) → Finite xs → T (finite v) → count (λ x. at_most v x) xs ≡ from (key v) xs
from_is xs v fs f = count_same finite (λ x. at_most v x) (λ x. leb (key v) (key x)) xs (λ x g. at_most-key v x f g) fs

under-is : (xs : List Float) (v : Float) → Finite xs → T (finite v) → count (λ x. smaller x v) xs + from (key v) xs ≡ length xs
under-is xs v fs f =
    omega (
      arith,
      count_same finite (λ x. smaller x v) (λ x. ltb (key x) (key v)) xs (λ x g. smaller-key x v g f) fs,
      count-same-all (λ x. leb (key v) (key x)) (λ x. not (ltb (key x) (key v))) xs (λ x. leb-not (key v) (key x)),
      count-not (λ x. ltb (key x) (key v)) xs,
    )

keys-up_to : (xs : List Float) (v : ℕ) → count (λ x. leb (key x) v) xs + above v xs ≡ length xs
keys-up_to xs v = omega (arith, count-same-all (λ x. leb (key x) v) (λ x. not (ltb v (key x))) xs (λ x. leb-not (key x) v), count-not (λ x. ltb v (key x)) xs)

up_to-is : (xs : List Float) (v : Float) → Finite xs → T (finite v) → count (λ x. at_most x v) xs + above (key v) xs ≡ length xs
up_to-is xs v fs f =
    omega (arith, count_same finite (λ x. at_most x v) (λ x. leb (key x) (key v)) xs (λ x g. at_most-key x v g f) fs, keys-up_to xs (key v))

-- larger bounds leave fewer members
above-falls : (xs : List Float) (v w : ℕ) → v ≤ w → above w xs ≤ above v xs
above-falls xs v w h = count-le-all (λ x. ltb w (key x)) (λ x. ltb v (key x)) xs (λ x t. lt→ltb v (key x) (omega (arith, ltb→lt w (key x) t)))

from-above : (xs : List Float) (v w : ℕ) → v < w → from w xs ≤ above v xs
from-above xs v w h = count-le-all (λ x. leb w (key x)) (λ x. ltb v (key x)) xs (λ x t. lt→ltb v (key x) (omega (arith, leb→le w (key x) t)))

-- ---- some member has each rank

from_zero : (xs : List Float) → from 0 xs ≡ length xs
unfolding count
from_zero [] = refl
from_zero (x ∷ xs) = omega (arith, ap bit (le-leb 0 (key x) (omega arith)), from_zero xs)

-- beyond the largest key there is none
top : List Float → ℕ
top [] = 0
top (x ∷ xs) = suc (key x) + top xs

from-top : (xs : List Float) (v : ℕ) → top xs ≤ v → from v xs ≡ 0
unfolding count top
from-top [] v h = refl
from-top (x ∷ xs) v h = omega (arith, ap bit (lt-leb v (key x) (omega arith)), from-top xs v (omega arith))

-- a test that holds at 0 and not at n holds for the last time somewhere between
record Last (p : ℕ → Bool) : Type 0 where
  place : ℕ
  here : T (p place)
  after : T (p (suc place)) → ⊥

last : (p : ℕ → Bool) (n : ℕ) → T (p 0) → (T (p n) → ⊥) → Last p
last p zero h g = absurd (g h)
last p (suc n) h g = go (p n) refl (last p n h)
  where
    go : (b : Bool) → p n ≡ b → ((T (p n) → ⊥) → Last p) → Last p
    go true e on = record { place = n; here = true-T (p n) e; after = g }
    go false e on = on (λ t. subst (λ (b : Bool). T b) e t)

eq-split : (v y : ℕ) → bit (leb v y) ≡ bit (ltb v y) + bit (eqb v y)
eq-split v y = go (dec_le v y) (dec_le y v)
  where
    go : Dec (v ≤ y) → Dec (y ≤ v) → bit (leb v y) ≡ bit (ltb v y) + bit (eqb v y)
    go (yes g) (yes h) = rw (le-leb v y g, le-ltb v y h, eq-eqb v y (omega arith))
    go (yes g) (no h) = rw (le-leb v y g, lt-ltb v y (omega (arith, h)), ne_eqb v y (λ q. omega (arith, h)))
    go (no g) h = rw (lt-leb v y (omega (arith, g)), le-ltb v y (omega (arith, g)), ne_eqb v y (λ q. omega (arith, g)))

-- the test of a rank, from its two facts and back
rank-T : (a b k : ℕ) → a < k → k ≤ b → T (ltb a k && leb k b)
rank-T a b k h g = and_both (ltb a k) (leb k b) (lt→ltb a k h) (le→leb k b g)

rank-few : (a b k : ℕ) → T (ltb a k && leb k b) → a < k
rank-few a b k t = ltb→lt a k (and_left (ltb a k) (leb k b) t)

rank-enough : (a b k : ℕ) → T (ltb a k && leb k b) → k ≤ b
rank-enough a b k t = leb→le k b (and_right (ltb a k) (leb k b) t)

module _ (k : ℕ) (xs : List Float) (fs : Finite xs) where
  -- the test of a rank, by keys
  from_top-is : (v : Float) → T (finite v) → from_top k xs v ≡ (ltb (above (key v) xs) k && leb k (from (key v) xs))
  unfolding from_top
  from_top-is v f = ap₂ (λ (m n : ℕ). ltb m k && leb k n) (above-is xs v fs f) (from_is xs v fs f)

  ranked : 0 < k → k ≤ length xs → 0 < count (from_top k xs) xs
  ranked pos few = hit (last (λ v. leb k (from v xs)) (top xs) (le→leb k (from 0 xs) (omega (arith, from_zero xs))) (λ t. omega (arith, leb→le k (from (top xs) xs) t, from-top xs (top xs) (omega arith))))
    where
      hit : Last (λ v. leb k (from v xs)) → 0 < count (from_top k xs) xs
      hit l =
          let v = l.place in
          let low : above v xs < k = not_within k (above v xs) (λ g. l.after (le→leb k (above v xs) g)) in
          let high : k ≤ from v xs = leb→le k (from v xs) l.here in
          omega (
            arith,
            count-both (λ x. leb v (key x)) (λ x. ltb v (key x)) (λ x. eqb v (key x)) xs (λ x. eq-split v (key x)),
            count-le finite (λ x. eqb v (key x)) (from_top k xs) xs
                (λ x f t. let e : v ≡ key x = eqb→eq v (key x) t in
                subst (λ (b : Bool). T b) (sym (from_top-is x f))
                (rank-T (above (key x) xs) (from (key x) xs) k (omega (arith, ap (λ (n : ℕ). above n xs) e)) (omega (arith, ap (λ (n : ℕ). from n xs) e))))
                fs,
          )

-- what holds of each member that passes, with plus zero for either zero, holds of the first
first_holds : (P : Float → Type 0) (r p : Float → Bool) (xs : List Float) → T (all r xs) → 0 < count p xs → ((x : Float) → T (r x) → T (p x) → P (with_plus_zero x)) → P (with_plus_zero (first p xs))
unfolding count first all
first_holds P r p [] rs h f = absurd (omega arith)
first_holds P r p (x ∷ xs) rs h f = go (p x) (λ g. first_holds P r p xs (and_right (r x) (all r xs) rs) g f) (f x (and_left (r x) (all r xs) rs)) h
  where
    go : (b : Bool) → (0 < count p xs → P (with_plus_zero (first p xs))) → (T b → P (with_plus_zero x)) → 0 < bit b + count p xs → P (with_plus_zero (cond b x (first p xs)))
    go true ih g h = g tt
    go false ih g h = ih (omega arith)

first-same : (r p q : Float → Bool) (xs : List Float) → T (all r xs) → ((x : Float) → T (r x) → p x ≡ q x) → first p xs ≡ first q xs
unfolding first all
first-same r p q [] rs h = refl
first-same r p q (x ∷ xs) rs h =
    ap₂ (λ (b : Bool) (y : Float). cond b x y) (h x (and_left (r x) (all r xs) rs)) (first-same r p q xs (and_right (r x) (all r xs) rs) h)

-- ---- the k-th largest

-- w is a finite value with no minus sign on zero that ranks k-th from the top
pub record Ranks (k : ℕ) (xs : List Float) (w : Float) : Type 0 where
  pub finitely : T (finite w)
  pub plain : with_plus_zero w ≡ w
  pub few : above (key w) xs < k
  pub enough : k ≤ from (key w) xs

module _ (k : ℕ) (xs : List Float) (fs : Finite xs) (pos : 0 < k) (held : k ≤ length xs) where
  pub kth_largest-ranks : Ranks k xs (kth_largest k xs)
  unfolding kth_largest
  kth_largest-ranks = first_holds (Ranks k xs) finite (from_top k xs) xs fs (ranked k xs fs pos held) (λ x f t. there x f (subst (λ (b : Bool). T b) (from_top-is k xs fs x f) t))
    where
      there : (x : Float) → T (finite x) → T (ltb (above (key x) xs) k && leb k (from (key x) xs)) → Ranks k xs (with_plus_zero x)
      there x f t = record {
        finitely = with_plus_zero-finite x f;
        plain = with_plus_zero-twice x;
        few = rw (with_plus_zero-key x) (rank-few (above (key x) xs) (from (key x) xs) k t);
        enough = rw (with_plus_zero-key x) (rank-enough (above (key x) xs) (from (key x) xs) k t);
      }

  -- what holds of every member, with plus zero for either zero, holds of the k-th largest
  pub kth_largest-holds : (p : Float → Bool) → T (all (λ x. p (with_plus_zero x)) xs) → T (p (kth_largest k xs))
  unfolding kth_largest
  kth_largest-holds p t = first_holds (λ x. T (p x)) (λ x. p (with_plus_zero x)) (from_top k xs) xs t (ranked k xs fs pos held) (λ x h g. h)

  pub kth_largest-law : (v : ℕ) → (v < key (kth_largest k xs)) ↔ (k ≤ above v xs)
  kth_largest-law v = (
    λ h. omega (arith, kth_largest-ranks.enough, from-above xs v (key (kth_largest k xs)) h),
    λ h. not_within (key (kth_largest k xs)) v (λ g. omega (arith, kth_largest-ranks.few, above-falls xs (key (kth_largest k xs)) v (omega arith))),
  )

  -- whatever ranks so is the k-th largest
  pub kth_largest-is : (w : Float) → Ranks k xs w → w ≡ kth_largest k xs
  kth_largest-is w r =
      sym r.plain ∙ with_plus_zero-same w (kth_largest k xs) r.finitely kth_largest-ranks.finitely same ∙ kth_largest-ranks.plain
    where
      same : key w ≡ key (kth_largest k xs)
      same = omega (
        arith,
        not-below (key w) (key (kth_largest k xs)) (λ g. omega (arith, r.few, (kth_largest-law (key w)).0 g)),
        not-below (key (kth_largest k xs)) (key w) (λ g. omega (arith, kth_largest-ranks.few, r.enough, from-above xs (key (kth_largest k xs)) (key w) g)),
      )

-- ---- the m-th smallest of n is the (n + 1 - m)-th largest

module _ (m : ℕ) (xs : List Float) (fs : Finite xs) (pos : 0 < m) (held : m ≤ length xs) where
  mth_smallest-top : mth_smallest m xs ≡ kth_largest (suc (length xs) - m) xs
  unfolding mth_smallest kth_largest from_bottom from_top
  mth_smallest-top = ap with_plus_zero (first-same finite (from_bottom m xs) (from_top (suc (length xs) - m) xs) xs fs tests)
    where
      tests : (v : Float) → T (finite v) → from_bottom m xs v ≡ from_top (suc (length xs) - m) xs v
      tests v f =
          let A = count (λ x. smaller v x) xs in
          let F = count (λ x. at_most v x) xs in
          let L = count (λ x. smaller x v) xs in
          let U = count (λ x. at_most x v) xs in
          let k = suc (length xs) - m in
          let up : U + A ≡ length xs = omega (arith, above-is xs v fs f, up_to-is xs v fs f) in
          let down : L + F ≡ length xs = omega (arith, from_is xs v fs f, under-is xs v fs f) in
          same_test (ltb L m && leb m U) (ltb A k && leb k F)
          (λ t. rank-T A F k (omega (arith, rank-enough L U m t)) (omega (arith, rank-few L U m t)))
          (λ t. rank-T L U m (omega (arith, rank-enough A F k t)) (omega (arith, rank-few A F k t)))

  pub mth_smallest-law : (v : ℕ) → (v < key (mth_smallest m xs)) ↔ (count (λ x. leb (key x) v) xs < m)
  mth_smallest-law v = rw mth_smallest-top
      (λ h. omega (arith, keys-up_to xs v, law.0 h), λ h. law.1 (omega (arith, keys-up_to xs v)))
    where
      law : (v < key (kth_largest (suc (length xs) - m) xs)) ↔ (suc (length xs) - m ≤ above v xs)
      law = kth_largest-law (suc (length xs) - m) xs fs (omega arith) (omega arith) v

  pub mth_smallest-holds : (p : Float → Bool) → T (all (λ x. p (with_plus_zero x)) xs) → T (p (mth_smallest m xs))
  mth_smallest-holds p t = rw mth_smallest-top (kth_largest-holds (suc (length xs) - m) xs fs (omega arith) (omega arith) p t)

-- the (n - e)-th smallest of n is above v exactly where more than e members are
pub mth_smallest-above : (n e : ℕ) (xs : List Float) → Finite xs → length xs ≡ n → e < n → (v : ℕ) → (v < key (mth_smallest (n - e) xs)) ↔ (e < above v xs)
mth_smallest-above n e xs fs l h v = (λ g. omega (arith, keys-up_to xs v, law.0 g), λ g. law.1 (omega (arith, keys-up_to xs v)))
  where
    law : (v < key (mth_smallest (n - e) xs)) ↔ (count (λ x. leb (key x) v) xs < n - e)
    law = mth_smallest-law (n - e) xs fs (omega arith) (omega arith) v

-- ---- whatever the rank

-- what holds of every member and of plus zero holds of the selected value
module _ (p : Float → Bool) (z : T (p plus_zero)) where
  first-keeps : (q : Float → Bool) (xs : List Float) → T (all p xs) → T (p (first q xs))
  unfolding first all
  first-keeps q [] h = z
  first-keeps q (x ∷ xs) h = go (q x) (first-keeps q xs (and_right (p x) (all p xs) h))
    where
      go : (b : Bool) → T (p (first q xs)) → T (p (cond b x (first q xs)))
      go true ih = and_left (p x) (all p xs) h
      go false ih = ih

  pub kth_largest-keeps : (k : ℕ) (xs : List Float) → T (all p xs) → T (p (kth_largest k xs))
  unfolding kth_largest
  kth_largest-keeps k xs h = with_plus_zero-keeps p z (first (from_top k xs) xs) (first-keeps (from_top k xs) xs h)

  pub mth_smallest-keeps : (m : ℕ) (xs : List Float) → T (all p xs) → T (p (mth_smallest m xs))
  unfolding mth_smallest
  mth_smallest-keeps m xs h = with_plus_zero-keeps p z (first (from_bottom m xs) xs) (first-keeps (from_bottom m xs) xs h)

-- the largest reaches what some member reaches
pub largest-reaches : (xs : List Float) → Finite xs → (v : ℕ) → 0 < from v xs → v ≤ key (kth_largest 1 xs)
largest-reaches xs fs zero h = omega arith
largest-reaches xs fs (suc v) h = (kth_largest-law 1 xs fs (omega arith) (omega (arith, count-length (λ x. leb (suc v) (key x)) xs)) v).1 h

-- a selected value has no minus sign on zero
pub mth_smallest-plain : (m : ℕ) (xs : List Float) → with_plus_zero (mth_smallest m xs) ≡ mth_smallest m xs
unfolding mth_smallest
mth_smallest-plain m xs = with_plus_zero-twice (first (from_bottom m xs) xs)
