-- The columns of a set, listed.
--   members-within       a row's values at them
--   members-length, members-below     how many there are, and that they are columns of the row
--   listed-finite        a row's values at listed columns are finite
--   column_fits, seen_more, seen_all     its largest values at listed columns, one after the other
--   listed_start, listed_in, listed-past, listed-done     one after the other
--   listed-room, listed_length, listed_is     the first places of the list, by the number of columns
use Prim.Native.Nat.{ℕ, suc, ◌+◌, ◌-◌, ◌/◌, ◌%◌, ◌≤◌, ◌<◌}
use native.Mathlib.Omega.{arith}
use native.Mathlib.Numerals.{add-one}
use mathlib.Core.Path.{◌≡◌, refl, sym, ap, ap₂, ◌∙◌, subst}
use mathlib.Core.Bool.{Bool, true, false, cond}
use mathlib.Core.List.{List, [], ◌∷◌, ◌++◌, map}
use lib.ListN.{length, get_or, drop, take, set, drop_of_length-le}
use lib.Seq.{drop-cons, take-suc-set, length-take-le}
use lib.Dec.{T, eqb, ltb, lt→ltb, ltb→lt}
use lib.Ieee.{Float, nan}
use borrow.Author.Tests.{eq-eqb, ne_eqb}
use Rattle.order.specs.Counting.{bit, count, all}
use Rattle.order.proofs.Booleans.{and_both}
use Rattle.order.specs.Order.{finite}
use Rattle.order.proofs.Counts.{all_get_d, all-le, all_map}
use Rattle.columns.specs.Columns.{Columns, size, within, columns_of}
use Rattle.masks.proofs.Walks.{split}
use Rattle.critical.specs.Internal.{pushed, top_from, members_from}

pub members-within : (row : List Float) (i : ℕ) (K : Columns) → i + length K ≤ length row → map (λ j. get_or row j nan) (members_from i K) ≡ within K (drop i row)
unfolding members_from within
members-within row i [] h = refl
members-within row i (b ∷ K) h = go b (members-within row (suc i) K (omega arith)) ∙ ap (within (b ∷ K)) (sym (drop-cons row i nan (omega arith)))
  where
    go : (b : Bool) → map (λ j. get_or row j nan) (members_from (suc i) K) ≡ within K (drop (suc i) row)
        → map (λ j. get_or row j nan) (cond b (i ∷ members_from (suc i) K) (members_from (suc i) K)) ≡ cond b (get_or row i nan ∷ within K (drop (suc i) row)) (within K (drop (suc i) row))
    go true e = ap (λ (l : List Float). get_or row i nan ∷ l) e
    go false e = e

pub members-length : (i : ℕ) (K : Columns) → length (members_from i K) ≡ size K
unfolding members_from size count
members-length i [] = refl
members-length i (b ∷ K) = go b (members-length (suc i) K)
  where
    go : (b : Bool) → length (members_from (suc i) K) ≡ size K → length (cond b (i ∷ members_from (suc i) K) (members_from (suc i) K)) ≡ bit b + size K
    go true e = omega (arith, e)
    go false e = omega (arith, e)

pub members-below : (n i : ℕ) (K : Columns) → i + length K ≤ n → T (all (λ j. ltb j n) (members_from i K))
unfolding members_from all
members-below n i [] h = tt
members-below n i (b ∷ K) h = go b (members-below n (suc i) K (omega arith))
  where
    go : (b : Bool) → T (all (λ j. ltb j n) (members_from (suc i) K)) → T (all (λ j. ltb j n) (cond b (i ∷ members_from (suc i) K) (members_from (suc i) K)))
    go true t = and_both (ltb i n) (all (λ j. ltb j n) (members_from (suc i) K)) (lt→ltb i n (omega arith)) t
    go false t = t

-- ---- a row's values at listed columns, one after the other

pub listed-finite : (row : List Float) (list : List ℕ) → T (all finite row) → T (all (λ j. ltb j (length row)) list) → T (all finite (map (λ j. get_or row j nan) list))
listed-finite row list f s = subst (λ (b : Bool). T b) (sym (all_map (λ j. get_or row j nan) finite list))
    (all-le (λ j. ltb j (length row)) (λ j. finite (get_or row j nan)) list (λ j t. all_get_d finite row j nan (ltb→lt j (length row) t) f) s)

module _ (row : List Float) (list : List ℕ) (i : ℕ) (h : i < length list) where
  pub column_fits : T (all (λ j. ltb j (length row)) list) → get_or list i 0 < length row
  column_fits s = ltb→lt (get_or list i 0) (length row) (all_get_d (λ j. ltb j (length row)) list i 0 h s)

  pub seen_more : (t t' z : List Float) → t' ≡ pushed t (get_or row (get_or list i 0) nan) → top_from t (map (λ j. get_or row j nan) (drop i list)) ≡ z → top_from t' (map (λ j. get_or row j nan) (drop (i + 1) list)) ≡ z
  unfolding top_from
  seen_more t t' z p q =
      ap (λ (u : List Float). top_from u (map (λ j. get_or row j nan) (drop (i + 1) list))) p ∙ ap (λ (n : ℕ). top_from (pushed t (get_or row (get_or list i 0) nan)) (map (λ j. get_or row j nan) (drop n list))) (add-one i)
      ∙ sym (ap (λ (l : List ℕ). top_from t (map (λ j. get_or row j nan) l)) (drop-cons list i 0 h)) ∙ q

pub seen_all : (row : List Float) (list : List ℕ) (i : ℕ) (t z : List Float) → length list ≤ i → top_from t (map (λ j. get_or row j nan) (drop i list)) ≡ z → t ≡ z
unfolding top_from
seen_all row list i t z h q = sym (ap (λ (l : List ℕ). top_from t (map (λ j. get_or row j nan) l)) (drop_of_length-le list {i = i} h)) ∙ q

-- ---- one after the other

pub listed_start : (cols s : ℕ) (at : List ℕ) → take 0 at ++ members_from 0 (columns_of (cols - 0) s) ≡ members_from 0 (columns_of cols s)
listed_start cols s at = let z : cols - 0 ≡ cols = omega arith in ap (λ (n : ℕ). members_from 0 (columns_of n s)) z

module _ (cols s i n : ℕ) (at : List ℕ) (t : List ℕ) (h : i < cols) (w : take n at ++ members_from i (columns_of (cols - i) s) ≡ t) where
  next : (b : Bool) → eqb (s % 2) 1 ≡ b → members_from i (columns_of (cols - i) s) ≡ cond b (i ∷ members_from (i + 1) (columns_of (cols - (i + 1)) (s / 2))) (members_from (i + 1) (columns_of (cols - (i + 1)) (s / 2)))
  unfolding members_from
  next b e = ap (members_from i) (split cols s i h)
      ∙ ap₂ (λ (c : Bool) (j : ℕ). cond c (i ∷ members_from j (columns_of (cols - (i + 1)) (s / 2))) (members_from j (columns_of (cols - (i + 1)) (s / 2)))) e (sym (add-one i))

  pub listed_in : (m : ℕ) (us : List ℕ) → n < length at → s % 2 ≡ 1 → us ≡ set at n i → m ≡ n + 1 → take m us ++ members_from (i + 1) (columns_of (cols - (i + 1)) (s / 2)) ≡ t
  listed_in m us l e u f =
      ap (λ (a : List ℕ). a ++ members_from (i + 1) (columns_of (cols - (i + 1)) (s / 2))) (ap₂ (λ (j : ℕ) (a : List ℕ). take j a) (f ∙ add-one n) u ∙ take-suc-set at n i l)
      ∙ snoc (take n at) i (members_from (i + 1) (columns_of (cols - (i + 1)) (s / 2))) ∙ ap (λ (l : List ℕ). take n at ++ l) (sym (next true (eq-eqb (s % 2) 1 e))) ∙ w
    where
      snoc : (xs : List ℕ) (a : ℕ) (ys : List ℕ) → (xs ++ (a ∷ [])) ++ ys ≡ xs ++ (a ∷ ys)
      snoc [] a ys = refl
      snoc (x ∷ xs) a ys = ap (λ (l : List ℕ). x ∷ l) (snoc xs a ys)

  pub listed-past : (m : ℕ) (us : List ℕ) → (s % 2 ≡ 1 → ⊥) → us ≡ at → m ≡ n → take m us ++ members_from (i + 1) (columns_of (cols - (i + 1)) (s / 2)) ≡ t
  listed-past m us e u f =
      ap₂ (λ (j : ℕ) (a : List ℕ). take j a ++ members_from (i + 1) (columns_of (cols - (i + 1)) (s / 2))) f u ∙ ap (λ (l : List ℕ). take n at ++ l) (sym (next false (ne_eqb (s % 2) 1 e))) ∙ w

listed-front : (cols s i n : ℕ) (at t : List ℕ) → cols ≤ i → take n at ++ members_from i (columns_of (cols - i) s) ≡ t → take n at ≡ t
unfolding members_from columns_of
listed-front cols s i n at t h w = let z : cols - i ≡ 0 = omega arith in sym (none (take n at)) ∙ ap (λ (m : ℕ). take n at ++ members_from i (columns_of m s)) (sym z) ∙ w
  where
    none : (l : List ℕ) → l ++ [] ≡ l
    none [] = refl
    none (x ∷ l) = ap (λ (m : List ℕ). x ∷ m) (none l)

pub listed-done : (cols s₀ s i n : ℕ) (at : List ℕ) → cols ≤ i → i ≤ cols → n ≤ i → cols ≤ 32 → length at ≡ 32 → take n at ++ members_from i (columns_of (cols - i) s) ≡ members_from 0 (columns_of cols s₀)
    → (size (columns_of cols s₀) ≤ length at) × (take (size (columns_of cols s₀)) at ≡ members_from 0 (columns_of cols s₀))
listed-done cols s₀ s i n at h l f c m w =
    let e = listed-front cols s i n at (members_from 0 (columns_of cols s₀)) h w in
    let z : size (columns_of cols s₀) ≡ n = sym (members-length 0 (columns_of cols s₀)) ∙ ap length (sym e) ∙ length-take-le n at (omega arith) in
    (omega arith, rw z e)

-- the first n places, where n is the number of columns
module _ (n m : ℕ) (at t : List ℕ) (e : n ≡ m) (f : (m ≤ length at) × (take m at ≡ t)) where
  pub listed-room : n ≤ length at
  listed-room = omega (arith, f.0)

  pub listed_length : n ≡ length (take n at)
  listed_length = sym (length-take-le n at listed-room)

  pub listed_is : take n at ≡ t
  listed_is = ap (λ (j : ℕ). take j at) e ∙ f.1
