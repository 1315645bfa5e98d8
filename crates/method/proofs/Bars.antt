-- Which column set a critical value.
--   value_there     what is selected of some values is one of them, up to the sign of zero; k_max-finite, put-plain: it is finite, and without a minus sign on zero
--   column-there, column-has, column-first     some column of K has a row's k-max: the one that is told has it, and no lower one
--   row-there, row-equal, row_first            some row's k-max over K is c(K): that of the row that is told is, and of no lower one; row-value: it is c(K) itself
--   set_place, set-placed, set-equal, set_before     of some sets one of which has c, the one that is told has it, and none before it; set_value: c itself
--   alone-there, alone-set, put-there, put-most     of one set, and of the sets with k - 1 columns put back, one has the critical value, and none a larger one
use Prim.Native.Nat.{ℕ, ◌-◌, ◌≤◌, ◌<◌}
use native.Mathlib.Omega.{arith}
use native.Mathlib.Decide.{dec_lt}
use mathlib.Core.Path.{◌≡◌, refl, sym, ap, ◌∙◌, subst}
use mathlib.Core.Bool.{Bool, true, false, not, cond, ◌&&◌}
use mathlib.Core.List.{List, [], ◌∷◌, map}
use lib.ListN.{length, get_or, length-map}
use lib.Dec.{T, leb}
use borrow.Author.Tests.{le-leb}
use lib.Ieee.{Float, nan}
use Rattle.order.specs.Order.{finite, at_most, equal, with_plus_zero}
use Rattle.order.specs.Counting.{all}
use Rattle.order.specs.Lists.{first_at}
use Rattle.order.proofs.Booleans.{true-T}
use Rattle.order.proofs.Counts.{all_get_d, all_map, all_true, count-some}
use Rattle.order.proofs.Firsts.{first_passes, first-before, first-none}
use Rattle.order.proofs.Keys.{key, at_most-le, zero-finite, equal-self, equal-same}
use Rattle.order.proofs.Rows.{Finite, Sound, sound_row, sound-length, sound-finite, sound-all, none_equal}
use Rattle.select.specs.Rank.{kth_largest}
use Rattle.select.proofs.Ranks.{kth_largest-ranks, kth_largest-holds, mth_smallest-holds}
use Rattle.columns.specs.Columns.{Columns, size, ◌∪◌, ◌∩◌, within, choose, equal_to}
use Rattle.columns.proofs.Sets.{has, has-∩, length-∩, within-length, within_all, size-test}
use Rattle.columns.proofs.PutBack.{choose-some}
use Rattle.columns.proofs.Lowest.{lowest-has, lowest-first, lowest-le, lowest-some, has-equal_to}
use Rattle.method.specs.Method.{k_max, critical_value, put_back}
use Rattle.method.specs.Bars.{k_max_column, bar_set, bar_row}
use Rattle.method.proofs.Critical.{tops, tops-finite, k_max-plain, critical_value-finite, critical_value-plain, sets-finite, put_back-keeps, put_back-reaches}

module _ {A : Type 0} (f : A → Float) (r : A → Bool) (xs : List A) (c : Float) (good : T (finite c)) where
  -- where a fact that holds of every member's value holds of c, c is the value of some member
  pub value_there : T (all r xs) → ((x : A) → T (r x) → T (finite (f x))) → ((p : Float → Bool) → T (all (λ x. p (with_plus_zero (f x))) xs) → T (p c)) → first_at (λ x. equal c (f x)) xs < length xs
  value_there rs fin holds = go (dec_lt (first_at (λ x. equal c (f x)) xs) (length xs))
    where
      go : Dec (first_at (λ x. equal c (f x)) xs < length xs) → first_at (λ x. equal c (f x)) xs < length xs
      go (yes h) = h
      go (no g) = absurd (subst (λ (b : Bool). T (not b)) (equal-self c good) (holds (λ x. not (equal c x)) (none_equal f r xs c good rs fin (first-none (λ x. equal c (f x)) xs g))))

-- ---- the column of a row's k-max

module _ (k : ℕ) (K : Columns) (row : List Float) (s : T (sound_row (length K) row)) (pos : 0 < k) (wide : k ≤ size K) where
  fs : Finite (within K row)
  fs = within_all finite K row (sound-finite (length K) row s)

  held : k ≤ length (within K row)
  held = omega (arith, within-length K row (sound-length (length K) row s))

  pub k_max-finite : T (finite (k_max k K row))
  unfolding k_max
  k_max-finite = (kth_largest-ranks k (within K row) fs pos held).finitely

  even : length K ≡ length (equal_to (k_max k K row) row)
  unfolding equal_to
  even = sym (length-map row _ ∙ sound-length (length K) row s)

  some : 0 < size (K ∩ equal_to (k_max k K row) row)
  unfolding equal_to k_max
  some =
      let v = kth_largest k (within K row) in
      let there = value_there (λ x. x) finite (within K row) v k_max-finite fs (λ x t. t) (λ p t. kth_largest-holds k (within K row) fs pos held p t) in
      omega (arith, size-test (λ x. equal v x) K row, count-some (λ x. equal v x) (within K row) (first_at (λ x. equal v x) (within K row)) nan there (first_passes (λ x. equal v x) (within K row) nan there))

  joint : length (K ∩ equal_to (k_max k K row) row) ≡ length K
  joint = length-∩ K (equal_to (k_max k K row) row) even

  -- which columns of K have it
  with_value : (j : ℕ) → j < length K → has (K ∩ equal_to (k_max k K row) row) j ≡ (has K j && equal (k_max k K row) (get_or row j nan))
  with_value j h = has-∩ K (equal_to (k_max k K row) row) even j ∙ ap (λ (b : Bool). has K j && b) (has-equal_to (k_max k K row) row j (omega (arith, sound-length (length K) row s)))

  pub column-first : (j : ℕ) → j < k_max_column k K row → (has K j && equal (k_max k K row) (get_or row j nan)) ≡ false
  unfolding k_max_column
  column-first j h = sym (with_value j (omega (arith, lowest-le (K ∩ equal_to (k_max k K row) row), joint))) ∙ lowest-first (K ∩ equal_to (k_max k K row) row) j h

  pub column-there : k_max_column k K row < length K
  unfolding k_max_column
  column-there = omega (arith, lowest-some (K ∩ equal_to (k_max k K row) row) some, joint)

  pub column-has : T (has K (k_max_column k K row) && equal (k_max k K row) (get_or row (k_max_column k K row) nan))
  unfolding k_max_column
  column-has = subst (λ (b : Bool). T b) (with_value (k_max_column k K row) column-there) (lowest-has (K ∩ equal_to (k_max k K row) row) (lowest-some (K ∩ equal_to (k_max k K row) row) some))

-- ---- the row of a critical value

pub row_first : (k : ℕ) (X : List (List Float)) (K : Columns) (c : Float) (g : ℕ) → g < bar_row k X K c → equal c (k_max k K (get_or X g [])) ≡ false
unfolding bar_row
row_first k X K c g h = first-before (λ row. equal c (k_max k K row)) X [] g h

module _ (n k e : ℕ) (X : List (List Float)) (s : Sound n X) (pos : 0 < k) (few : e < length X) (K : Columns) (h : length K ≡ n) (wide : k ≤ size K) where
  row-sound : (row : List Float) → T (sound_row n row) → T (sound_row (length K) row)
  row-sound row t = subst (λ (m : ℕ). T (sound_row m row)) (sym h) t

  pub row-there : bar_row k X K (critical_value k e X K) < length X
  unfolding bar_row critical_value
  row-there = value_there (λ row. k_max k K row) (sound_row n) X (critical_value k e X K) (critical_value-finite n k e X K s) s (λ row t. k_max-finite k K row (row-sound row t) pos wide)
      (λ p t. mth_smallest-holds (length X - e) (tops k X K) (tops-finite n k X K s) (omega arith) (omega (arith, length-map X (λ row. k_max k K row))) p (rw (all_map (λ row. k_max k K row) (λ x. p (with_plus_zero x)) X) t))

  pub row-equal : T (equal (critical_value k e X K) (k_max k K (get_or X (bar_row k X K (critical_value k e X K)) [])))
  unfolding bar_row
  row-equal = first_passes (λ row. equal (critical_value k e X K) (k_max k K row)) X [] row-there

  -- that row's k-max is the critical value itself
  pub row-value : k_max k K (get_or X (bar_row k X K (critical_value k e X K)) []) ≡ critical_value k e X K
  row-value =
      let row = get_or X (bar_row k X K (critical_value k e X K)) [] in
      let t = row-sound row (all_get_d (sound_row n) X (bar_row k X K (critical_value k e X K)) [] row-there s) in
      sym (equal-same (critical_value k e X K) (k_max k K row) (critical_value-finite n k e X K s) (k_max-finite k K row t pos wide) (critical_value-plain k e X K) (k_max-plain k K row t pos wide) row-equal)

-- ---- the set of a critical value

module _ (k e : ℕ) (X : List (List Float)) (Ks : List Columns) (c : Float) where
  -- its place among the sets, from 0
  abbrev pub set_place : ℕ
  set_place = first_at (λ K. equal c (critical_value k e X K)) Ks

  -- it is the set at that place
  pub set-placed : bar_set k e X Ks c ≡ get_or Ks set_place []
  unfolding bar_set
  set-placed = refl

  pub set_before : (i : ℕ) → i < set_place → equal c (critical_value k e X (get_or Ks i [])) ≡ false
  set_before i h = first-before (λ K. equal c (critical_value k e X K)) Ks [] i h

  module _ (there : first_at (λ K. equal c (critical_value k e X K)) Ks < length Ks) where
    pub set-equal : T (equal c (critical_value k e X (bar_set k e X Ks c)))
    set-equal = rw set-placed (first_passes (λ K. equal c (critical_value k e X K)) Ks [] there)

    pub set_value : (n : ℕ) → Sound n X → T (finite c) → with_plus_zero c ≡ c → critical_value k e X (bar_set k e X Ks c) ≡ c
    set_value n s f q =
        let K = bar_set k e X Ks c in
        sym (equal-same c (critical_value k e X K) f (critical_value-finite n k e X K s) q (critical_value-plain k e X K) set-equal)

-- one set alone
pub alone-there : (n k e : ℕ) (X : List (List Float)) (K : Columns) → Sound n X → set_place k e X (K ∷ []) (critical_value k e X K) ≡ 0
unfolding first_at
alone-there n k e X K s = ap (λ (b : Bool). cond b 0 1) (equal-self (critical_value k e X K) (critical_value-finite n k e X K s))

pub alone-set : (n k e : ℕ) (X : List (List Float)) (K : Columns) → Sound n X → (c : Float) → c ≡ critical_value k e X K → bar_set k e X (K ∷ []) c ≡ K
unfolding bar_set
alone-set n k e X K s c q = ap (λ (v : Float). get_or (K ∷ []) (first_at (λ K. equal v (critical_value k e X K)) (K ∷ [])) []) q ∙ ap (λ (i : ℕ). get_or (K ∷ []) i []) (alone-there n k e X K s)

-- the sets with k - 1 columns put back: one of them gives the largest value, and none gives a larger one
module _ (n k e : ℕ) (X : List (List Float)) (s : Sound n X) (A R : Columns) (some : k - 1 ≤ size R) where
  abbrev put_sets : List Columns
  put_sets = map (λ I. A ∪ I) (choose (k - 1) R)

  filled : 1 ≤ length (map (λ I. critical_value k e X (A ∪ I)) (choose (k - 1) R))
  filled = omega (arith, length-map (choose (k - 1) R) (λ I. critical_value k e X (A ∪ I)), choose-some (k - 1) R some)

  put-finite : T (finite (put_back k e X A R))
  put-finite = put_back-keeps finite zero-finite k e X A R (sound-all n X s)

  pub put-plain : with_plus_zero (put_back k e X A R) ≡ put_back k e X A R
  unfolding put_back
  put-plain = (kth_largest-ranks 1 (map (λ I. critical_value k e X (A ∪ I)) (choose (k - 1) R)) (sets-finite n k e X s A R) (omega arith) filled).plain

  pub put-there : set_place k e X (map (λ I. A ∪ I) (choose (k - 1) R)) (put_back k e X A R) < length (map (λ I. A ∪ I) (choose (k - 1) R))
  unfolding put_back
  put-there =
      let Is = choose (k - 1) R in
      value_there (λ K. critical_value k e X K) (λ _. true) put_sets (put_back k e X A R) put-finite (all_true put_sets) (λ K _. critical_value-finite n k e X K s)
      (λ p t. kth_largest-holds 1 (map (λ I. critical_value k e X (A ∪ I)) Is) (sets-finite n k e X s A R) (omega arith) filled p
      (rw (all_map (λ I. critical_value k e X (A ∪ I)) (λ x. p (with_plus_zero x)) Is) (subst (λ (b : Bool). T b) (all_map (λ I. A ∪ I) (λ K. p (with_plus_zero (critical_value k e X K))) Is) t)))

  pub put-most : (i : ℕ) → i < length (choose (k - 1) R) → T (at_most (critical_value k e X (A ∪ get_or (choose (k - 1) R) i [])) (put_back k e X A R))
  put-most i h =
      let c = critical_value k e X (A ∪ get_or (choose (k - 1) R) i []) in
      at_most-le c (put_back k e X A R) (critical_value-finite n k e X (A ∪ get_or (choose (k - 1) R) i []) s) put-finite
      (put_back-reaches n k e X s A R (key c) (count-some (λ I. leb (key c) (key (critical_value k e X (A ∪ I)))) (choose (k - 1) R) i [] h (true-T (leb (key c) (key c)) (le-leb (key c) (key c) (omega arith)))))
