-- How many rows reach a value, and critical values.
--   k_max-reaches     a row's k-max reaches v exactly where k of its values over K do
--   reach-law         c(K) reaches v exactly where more than e rows do
--   reaching-most     at most all rows reach a value
--   reaching-columns  the rows that reach v, by how many columns of K do in each
use Prim.Native.Nat.{ℕ, zero, suc, ◌≤◌, ◌<◌}
use native.Mathlib.Omega.{arith}
use mathlib.Core.Path.{◌≡◌, refl, sym, ap, ◌∙◌, subst}
use mathlib.Core.Logic.{◌↔◌}
use mathlib.Core.List.{List}
use lib.ListN.{length}
use lib.Dec.{ltb, leb, T, ltb→lt, lt→ltb, leb→le, le→leb}
use lib.Ieee.{Float}
use Rattle.order.specs.Order.{finite, at_most}
use Rattle.order.specs.Counting.{count}
use Rattle.order.proofs.Booleans.{same_test}
use Rattle.order.proofs.Keys.{key, key-some, at_most-key, zero-finite}
use Rattle.order.proofs.Counts.{count_same, count-same-all, count-length}
use Rattle.order.proofs.Rows.{sound_row, Sound, sound-finite}
use Rattle.select.proofs.Ranks.{above, from, from_is, kth_largest-keeps}
use Rattle.columns.specs.Columns.{Columns, size, ◌∩◌, within, reached}
use Rattle.columns.proofs.Sets.{within_all, size-test}
use Rattle.method.specs.Method.{k_max, critical_value, reaching}
use Rattle.method.proofs.Critical.{k_max-law, critical_value-law}

-- at least suc u is above u
reach-above : (u y : ℕ) → leb (suc u) y ≡ ltb u y
reach-above u y = same_test (leb (suc u) y) (ltb u y) (λ t. lt→ltb u y (leb→le (suc u) y t)) (λ t. le→leb (suc u) y (ltb→lt u y t))

module _ (n k : ℕ) (K : Columns) (v : Float) (f : T (finite v)) (row : List Float) (s : T (sound_row n row)) where
  k_max-finite : T (finite (k_max k K row))
  unfolding k_max
  k_max-finite = kth_largest-keeps finite zero-finite k (within K row) (within_all finite K row (sound-finite n row s))

  -- by keys
  reach-key : (u : ℕ) → key v ≡ suc u → at_most v (k_max k K row) ≡ ltb u (key (k_max k K row))
  reach-key u q = at_most-key v (k_max k K row) f k_max-finite ∙ ap (λ (m : ℕ). leb m (key (k_max k K row))) q ∙ reach-above u (key (k_max k K row))

  reached-key : (u : ℕ) → key v ≡ suc u → size (K ∩ reached v row) ≡ above u (within K row)
  unfolding reached
  reached-key u q =
      size-test (λ x. at_most v x) K row ∙ from_is (within K row) v (within_all finite K row (sound-finite n row s)) f ∙ ap (λ (m : ℕ). from m (within K row)) q
      ∙ count-same-all (λ x. leb (suc u) (key x)) (λ x. ltb u (key x)) (within K row) (λ x. reach-above u (key x))

  pub k_max-reaches : length K ≡ n → 0 < k → k ≤ size K → at_most v (k_max k K row) ≡ leb k (size (K ∩ reached v row))
  k_max-reaches h pos wide = go (key v) refl (key-some v f)
    where
      law : (u : ℕ) → (u < key (k_max k K row)) ↔ (k ≤ above u (within K row))
      law u = k_max-law k K row (subst (λ (m : ℕ). T (sound_row m row)) (sym h) s) pos wide u

      go : (w : ℕ) → key v ≡ w → 0 < w → at_most v (k_max k K row) ≡ leb k (size (K ∩ reached v row))
      go zero q p = absurd (omega arith)
      go (suc u) q p =
          reach-key u q
          ∙ same_test (ltb u (key (k_max k K row))) (leb k (above u (within K row))) (λ t. le→leb k (above u (within K row)) ((law u).0 (ltb→lt u (key (k_max k K row)) t)))
          (λ t. lt→ltb u (key (k_max k K row)) ((law u).1 (leb→le k (above u (within K row)) t)))
          ∙ ap (λ (m : ℕ). leb k m) (sym (reached-key u q))

pub reach-law : (n k e : ℕ) (X : List (List Float)) (K : Columns) (v : Float) → Sound n X → 0 < k → e < length X → T (finite v) → (key v ≤ key (critical_value k e X K)) ↔ (e < reaching k X K v)
unfolding reaching
reach-law n k e X K v sound pos rare f = go (key v) refl (key-some v f)
  where
    counts : (u : ℕ) → key v ≡ suc u → count (λ row. at_most v (k_max k K row)) X ≡ count (λ row. ltb u (key (k_max k K row))) X
    counts u q = count_same (sound_row n) (λ row. at_most v (k_max k K row)) (λ row. ltb u (key (k_max k K row))) X (λ row s. reach-key n k K v f row s u q) sound

    go : (w : ℕ) → key v ≡ w → 0 < w → (w ≤ key (critical_value k e X K)) ↔ (e < count (λ row. at_most v (k_max k K row)) X)
    go zero q p = absurd (omega arith)
    go (suc u) q p = (
      λ g. omega (arith, counts u q, (critical_value-law n k e X sound pos rare K u).0 g),
      λ g. (critical_value-law n k e X sound pos rare K u).1 (omega (arith, counts u q)),
    )

pub reaching-columns : (n k : ℕ) (X : List (List Float)) (K : Columns) (v : Float) → Sound n X → length K ≡ n → 0 < k → k ≤ size K → T (finite v) → reaching k X K v ≡ count (λ row. leb k (size (K ∩ reached v row))) X
unfolding reaching
reaching-columns n k X K v sound h pos wide f =
    count_same (sound_row n) (λ row. at_most v (k_max k K row)) (λ row. leb k (size (K ∩ reached v row))) X (λ row s. k_max-reaches n k K v f row s h pos wide) sound

pub reaching-most : (k : ℕ) (X : List (List Float)) (K : Columns) (v : Float) → reaching k X K v ≤ length X
unfolding reaching
reaching-most k X K v = count-length (λ row. at_most v (k_max k K row)) X
