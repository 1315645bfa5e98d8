-- Laws of critical values.
--   critical_value-law   c(K) is above v exactly where more than e rows have k values of K above v
--   critical-looser      c(K') with k' and e' is at most c(K) with k ≤ k' and e ≤ e', where K lacks at most k' - k columns of K'
--   critical_value-plain  c(K) has no minus sign on zero
--   critical_value-holds  c(K) of at least k columns is a value of the table, with plus zero for either zero
--   at_least-own         the observed row is counted
--   critical_value-keeps, put_back-keeps   what holds of every value and of plus zero holds of critical values
--   put_back-reaches, put_back-under  put_back is no smaller than c of a set that some A with I holds, and no larger than a bound of them all
use Prim.Native.Nat.{ℕ, ◌+◌, ◌-◌, ◌≤◌, ◌<◌}
use native.Mathlib.Omega.{arith}
use mathlib.Core.Path.{◌≡◌, sym, ◌∙◌, subst}
use mathlib.Core.Logic.{◌↔◌}
use mathlib.Core.Bool.{Bool, true, ◌&&◌}
use mathlib.Core.List.{List, [], map}
use lib.ListN.{length, get_or, length-map}
use lib.Dec.{ltb, leb, T, ltb→lt, lt→ltb, leb→le}
use lib.Ieee.{Float, nan}
use Rattle.order.specs.Order.{plus_zero, at_most, finite, with_plus_zero}
use Rattle.order.specs.Counting.{count, all}
use Rattle.order.proofs.Booleans.{and_left, and_right, not-below}
use Rattle.order.proofs.Keys.{key, at_most-le, zero-finite, with_plus_zero-key}
use Rattle.order.proofs.Counts.{count-some, all_get_d, all_true, all-le, all_both, all_map, count-le, count_map}
use Rattle.order.proofs.Rows.{Finite, sound_row, Sound, sound-length, sound-finite, sound-at, sound-all}
use Rattle.select.specs.Rank.{kth_largest, mth_smallest}
use Rattle.select.proofs.Ranks.{above, kth_largest-law, kth_largest-holds, kth_largest-ranks, kth_largest-keeps, mth_smallest-above, mth_smallest-holds, mth_smallest-keeps, mth_smallest-plain, largest-reaches}
use Rattle.columns.specs.Columns.{Columns, size, ◌∪◌, ◌∖◌, within, choose}
use Rattle.columns.proofs.PutBack.{within-less, size_less}
use Rattle.columns.proofs.Sets.{within-length, within_all}
use Rattle.method.specs.Method.{k_max, critical_value, put_back, at_least}

-- ---- a row's k-max

module _ (k : ℕ) (K : Columns) (row : List Float) (s : T (sound_row (length K) row)) (pos : 0 < k) (wide : k ≤ size K) where
  held : k ≤ length (within K row)
  held = omega (arith, within-length K row (sound-length (length K) row s))

  pub k_max-law : (v : ℕ) → (v < key (k_max k K row)) ↔ (k ≤ above v (within K row))
  unfolding k_max
  k_max-law v = kth_largest-law k (within K row) (within_all finite K row (sound-finite (length K) row s)) pos held v

  pub k_max-holds : (p : Float → Bool) → T (all (λ x. p (with_plus_zero x)) row) → T (p (k_max k K row))
  unfolding k_max
  k_max-holds p t = kth_largest-holds k (within K row) (within_all finite K row (sound-finite (length K) row s)) pos held p (within_all (λ x. p (with_plus_zero x)) K row t)

  pub k_max-plain : with_plus_zero (k_max k K row) ≡ k_max k K row
  unfolding k_max
  k_max-plain = (kth_largest-ranks k (within K row) (within_all finite K row (sound-finite (length K) row s)) pos held).plain

-- ---- c(K)

-- the rows' k-max values
abbrev pub tops : ℕ → List (List Float) → Columns → List Float
tops k X K = map (λ row. k_max k K row) X

tops-keep : (p : Float → Bool) → T (p plus_zero) → (k : ℕ) (X : List (List Float)) (K : Columns) → T (all (all p) X) → T (all p (tops k X K))
unfolding k_max
tops-keep p z k X K h = rw (all_map (λ row. k_max k K row) p X) (all-le (all p) (λ row. p (k_max k K row)) X (λ row t. kth_largest-keeps p z k (within K row) (within_all p K row t)) h)

pub tops-finite : (n k : ℕ) (X : List (List Float)) (K : Columns) → Sound n X → Finite (tops k X K)
tops-finite n k X K s = tops-keep finite zero-finite k X K (sound-all n X s)

module _ (n k e : ℕ) (X : List (List Float)) (s : Sound n X) (pos : 0 < k) (few : e < length X) where
  pub critical_value-law : (K : Columns) (v : ℕ) → (v < key (critical_value k e X K)) ↔ (e < count (λ row. ltb v (key (k_max k K row))) X)
  unfolding critical_value
  critical_value-law K v =
      (λ h. omega (arith, count_map (λ row. k_max k K row) (λ x. ltb v (key x)) X, law.0 h), λ h. law.1 (omega (arith, count_map (λ row. k_max k K row) (λ x. ltb v (key x)) X)))
    where
      law : (v < key (mth_smallest (length X - e) (tops k X K))) ↔ (e < above v (tops k X K))
      law = mth_smallest-above (length X) e (tops k X K) (tops-finite n k X K s) (length-map X (λ row. k_max k K row)) few v

  -- c(K) is a value of the table, with plus zero for either zero: what holds of all of those holds of it
  pub critical_value-holds : (K : Columns) → length K ≡ n → k ≤ size K → (p : Float → Bool) → T (all (λ row. all (λ x. p (with_plus_zero x)) row) X) → T (p (critical_value k e X K))
  unfolding critical_value
  critical_value-holds K h wide p t =
      mth_smallest-holds (length X - e) (tops k X K) (tops-finite n k X K s) (omega arith) (omega (arith, length-map X (λ row. k_max k K row))) p
      (rw (all_map (λ row. k_max k K row) (λ x. p (with_plus_zero x)) X)
      (all-le (λ row. sound_row n row && all (λ x. p (with_plus_zero x)) row) (λ row. p (with_plus_zero (k_max k K row))) X
      (λ row b. in_row row (subst (λ (m : ℕ). T (sound_row m row)) (sym h) (and_left (sound_row n row) (all (λ x. p (with_plus_zero x)) row) b)) (and_right (sound_row n row) (all (λ x. p (with_plus_zero x)) row) b))
      (all_both (sound_row n) (λ row. all (λ x. p (with_plus_zero x)) row) X s t)))
    where
      in_row : (row : List Float) → T (sound_row (length K) row) → T (all (λ x. p (with_plus_zero x)) row) → T (p (with_plus_zero (k_max k K row)))
      in_row row b u = rw (k_max-plain k K row b pos wide) (k_max-holds k K row b pos wide p u)

-- what holds of every value of the table and of plus zero holds of every critical value
pub critical_value-keeps : (p : Float → Bool) → T (p plus_zero) → (k e : ℕ) (X : List (List Float)) (K : Columns) → T (all (all p) X) → T (p (critical_value k e X K))
unfolding critical_value
critical_value-keeps p z k e X K h = mth_smallest-keeps p z (length X - e) (tops k X K) (tops-keep p z k X K h)

pub critical_value-finite : (n k e : ℕ) (X : List (List Float)) (K : Columns) → Sound n X → T (finite (critical_value k e X K))
critical_value-finite n k e X K s = critical_value-keeps finite zero-finite k e X K (sound-all n X s)

-- it has no minus sign on zero
pub critical_value-plain : (k e : ℕ) (X : List (List Float)) (K : Columns) → with_plus_zero (critical_value k e X K) ≡ critical_value k e X K
unfolding critical_value
critical_value-plain k e X K = mth_smallest-plain (length X - e) (tops k X K)

-- ---- looser settings

-- one law behind loosening, falling from step to step, and control
module _ (n k e k' e' : ℕ) (X : List (List Float)) (s : Sound n X) (pos : 0 < k) (few : e < length X) (few' : e' < length X) (lower : e ≤ e') where
  pub critical-looser : (K' K : Columns) → length K' ≡ n → length K ≡ n → k + size (K' ∖ K) ≤ k' → k' ≤ size K' → key (critical_value k' e' X K') ≤ key (critical_value k e X K)
  critical-looser K' K h' h lack wide = not-below (key (critical_value k e X K)) (key (critical_value k' e' X K')) (λ g.
      let v = key (critical_value k e X K) in
      let b : v < v = (critical_value-law n k e X s pos few K v).1 (omega (
        arith,
        (critical_value-law n k' e' X s (omega arith) few' K' v).0 g,
        count-le (sound_row n) (λ row. ltb v (key (k_max k' K' row))) (λ row. ltb v (key (k_max k K row))) X (row-looser v) s,
      )) in
      omega arith)
    where
      row-looser : (v : ℕ) (row : List Float) → T (sound_row n row) → T (ltb v (key (k_max k' K' row))) → T (ltb v (key (k_max k K row)))
      row-looser v row t u = lt→ltb v (key (k_max k K row))
          ((k_max-law k K row (subst (λ (m : ℕ). T (sound_row m row)) (sym h) t) pos (omega (arith, size_less K' K (h ∙ sym h'))) v).1
          (omega (
            arith,
            within-less (λ x. ltb v (key x)) K' K row (h ∙ sym h'),
            (k_max-law k' K' row (subst (λ (m : ℕ). T (sound_row m row)) (sym h') t) (omega arith) wide v).0 (ltb→lt v (key (k_max k' K' row)) u),
          )))

-- ---- the largest critical value with k - 1 columns put back

sets-keep : (p : Float → Bool) → T (p plus_zero) → (k e : ℕ) (X : List (List Float)) (A R : Columns) → T (all (all p) X) → T (all p (map (λ I. critical_value k e X (A ∪ I)) (choose (k - 1) R)))
sets-keep p z k e X A R h = rw (all_map (λ I. critical_value k e X (A ∪ I)) p (choose (k - 1) R))
    (all-le (λ _. true) (λ I. p (critical_value k e X (A ∪ I))) (choose (k - 1) R) (λ I t. critical_value-keeps p z k e X (A ∪ I) h) (all_true (choose (k - 1) R)))

module _ (n k e : ℕ) (X : List (List Float)) (s : Sound n X) (A R : Columns) where
  pub sets-finite : Finite (map (λ I. critical_value k e X (A ∪ I)) (choose (k - 1) R))
  sets-finite = sets-keep finite zero-finite k e X A R (sound-all n X s)

  -- what some set reaches, the largest reaches
  pub put_back-reaches : (v : ℕ) → 0 < count (λ I. leb v (key (critical_value k e X (A ∪ I)))) (choose (k - 1) R) → v ≤ key (put_back k e X A R)
  unfolding put_back
  put_back-reaches v h = largest-reaches (map (λ I. critical_value k e X (A ∪ I)) (choose (k - 1) R)) sets-finite v
      (rw (count_map (λ I. critical_value k e X (A ∪ I)) (λ x. leb v (key x)) (choose (k - 1) R)) h)

  -- what bounds all sets, of which there is one, bounds the largest
  pub put_back-under : (v : ℕ) → 0 < length (choose (k - 1) R) → T (all (λ I. leb (key (critical_value k e X (A ∪ I))) v) (choose (k - 1) R)) → key (put_back k e X A R) ≤ v
  unfolding put_back
  put_back-under v h t = leb→le (key (kth_largest 1 (map (λ I. critical_value k e X (A ∪ I)) (choose (k - 1) R)))) v
      (kth_largest-holds 1 (map (λ I. critical_value k e X (A ∪ I)) (choose (k - 1) R)) sets-finite (omega arith) (omega (arith, length-map (choose (k - 1) R) (λ I. critical_value k e X (A ∪ I)))) (λ x. leb (key x) v)
      (rw (all_map (λ I. critical_value k e X (A ∪ I)) (λ x. leb (key (with_plus_zero x)) v) (choose (k - 1) R))
      (all-le (λ I. leb (key (critical_value k e X (A ∪ I))) v) (λ I. leb (key (with_plus_zero (critical_value k e X (A ∪ I)))) v) (choose (k - 1) R)
      (λ I u. rw (with_plus_zero-key (critical_value k e X (A ∪ I))) u) t)))

pub put_back-keeps : (p : Float → Bool) → T (p plus_zero) → (k e : ℕ) (X : List (List Float)) (A R : Columns) → T (all (all p) X) → T (p (put_back k e X A R))
unfolding put_back
put_back-keeps p z k e X A R h = kth_largest-keeps p z 1 (map (λ I. critical_value k e X (A ∪ I)) (choose (k - 1) R)) (sets-keep p z k e X A R h)

-- ---- counts

-- a row that shows the value is counted, the observed one too
pub at_least-own : (n : ℕ) (X : List (List Float)) (g j : ℕ) → Sound n X → g < length X → j < n → 0 < at_least X (get_or (get_or X g []) j nan) j
unfolding at_least
at_least-own n X g j s h l = count-some (λ row. at_most v (get_or row j nan)) X g [] h (at_most-le v v f f (omega arith))
  where
    v : Float
    v = get_or (get_or X g []) j nan

    row : T (sound_row n (get_or X g []))
    row = all_get_d (sound_row n) X g [] h s

    f : T (finite v)
    f = sound-at n (get_or X g []) j row l
