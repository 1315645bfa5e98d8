-- How many rows exceed a value, and critical values. The value may be minus infinity.
--   exceeds k K v row     at least k columns of K lie above v in the row
--   k_max-exceeds         a row's k-max is above v exactly where k of its values over K are
--   exceed-law            c(K) is above v exactly where more than e rows exceed it
--   exceed-yes, exceed-not     the same as a test of the two values
use Prim.Native.Nat.{ℕ, ◌≤◌, ◌<◌}
use native.Mathlib.Omega.{arith}
use mathlib.Core.Path.{◌≡◌, sym, ◌∙◌, subst}
use mathlib.Core.Logic.{◌↔◌}
use mathlib.Core.Bool.{Bool, false}
use mathlib.Core.List.{List, map}
use lib.ListN.{length}
use lib.Dec.{ltb, leb, T, ltb→lt, lt→ltb, leb→le, le→leb}
use lib.Ieee.{Float}
use Rattle.order.specs.Order.{finite, low, smaller}
use Rattle.order.specs.Counting.{count}
use Rattle.order.proofs.Booleans.{same_test, T_false}
use Rattle.order.proofs.Infinities.{finite-low, smaller-low}
use Rattle.order.proofs.Keys.{key}
use Rattle.order.proofs.Counts.{count_same}
use Rattle.order.proofs.Rows.{Finite, sound_row, Sound, sound-finite}
use Rattle.select.proofs.Ranks.{above}
use Rattle.columns.specs.Columns.{Columns, size, ◌∩◌, within}
use Rattle.columns.proofs.Sets.{within_all, size-test}
use Rattle.method.specs.Method.{k_max, critical_value}
use Rattle.method.proofs.Critical.{k_max-law, critical_value-law, critical_value-finite}

abbrev pub exceeds : ℕ → Columns → Float → List Float → Bool
exceeds k K v row = leb k (size (K ∩ map (λ x. smaller v x) row))

module _ (n k : ℕ) (K : Columns) (h : length K ≡ n) (pos : 0 < k) (wide : k ≤ size K) (v : Float) (l : T (low v)) where
  pub k_max-exceeds : (row : List Float) → T (sound_row n row) → ltb (key v) (key (k_max k K row)) ≡ exceeds k K v row
  k_max-exceeds row s = same_test (ltb (key v) (key (k_max k K row))) (exceeds k K v row)
      (λ u. le→leb k (size (K ∩ map (λ x. smaller v x) row)) (omega (arith, same, law.0 (ltb→lt (key v) (key (k_max k K row)) u))))
      (λ u. lt→ltb (key v) (key (k_max k K row)) (law.1 (omega (arith, same, leb→le k (size (K ∩ map (λ x. smaller v x) row)) u))))
    where
      fs : Finite (within K row)
      fs = within_all finite K row (sound-finite n row s)

      same : size (K ∩ map (λ x. smaller v x) row) ≡ above (key v) (within K row)
      same = size-test (λ x. smaller v x) K row ∙ count_same finite (λ x. smaller v x) (λ x. ltb (key v) (key x)) (within K row) (λ x f. smaller-low v x l (finite-low x f)) fs

      law : (key v < key (k_max k K row)) ↔ (k ≤ above (key v) (within K row))
      law = k_max-law k K row (subst (λ (m : ℕ). T (sound_row m row)) (sym h) s) pos wide (key v)

  module _ (e : ℕ) (X : List (List Float)) (sound : Sound n X) (few : e < length X) where
    pub exceed-law : (key v < key (critical_value k e X K)) ↔ (e < count (exceeds k K v) X)
    exceed-law = (λ g. omega (arith, same, law.0 g), λ g. law.1 (omega (arith, same)))
      where
        same : count (λ row. ltb (key v) (key (k_max k K row))) X ≡ count (exceeds k K v) X
        same = count_same (sound_row n) (λ row. ltb (key v) (key (k_max k K row))) (exceeds k K v) X k_max-exceeds sound

        law : (key v < key (critical_value k e X K)) ↔ (e < count (λ row. ltb (key v) (key (k_max k K row))) X)
        law = critical_value-law n k e X sound pos few K (key v)

    by_key : smaller v (critical_value k e X K) ≡ ltb (key v) (key (critical_value k e X K))
    by_key = smaller-low v (critical_value k e X K) l (finite-low (critical_value k e X K) (critical_value-finite n k e X K sound))

    pub exceed-not : count (exceeds k K v) X ≤ e → smaller v (critical_value k e X K) ≡ false
    exceed-not g = by_key ∙ T_false (ltb (key v) (key (critical_value k e X K))) (λ t. omega (arith, exceed-law.0 (ltb→lt (key v) (key (critical_value k e X K)) t)))

    pub exceed-yes : e < count (exceeds k K v) X → T (smaller v (critical_value k e X K))
    exceed-yes g = subst (λ (b : Bool). T b) (sym by_key) (lt→ltb (key v) (key (critical_value k e X K)) (exceed-law.1 g))
