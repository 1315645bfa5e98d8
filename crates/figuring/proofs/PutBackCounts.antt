-- The count that a value needs, by marks: the walk over the sets that are put back, and what it gives.
--   walk_none, walk-skip      nothing left to choose from; a column that is not passed
--   walk-pruned, walk-leaf, walk-in    a column that is chosen: too few rows bear it out; it was the last to choose; or more are chosen after it
--   walked, odd-one           the best count after the walk; a bit that is not clear is set
--   passed-within, remaining-fits, first_walk   what the walk starts from: the columns that are not passed
--   needed-few, needed-bounded, needed-walk     the cases of `needed`
use Prim.Native.Nat.{ℕ, zero, suc, ◌+◌, ◌-◌, ◌/◌, ◌%◌, ◌^◌, ◌≤◌, ◌<◌, max}
use native.Mathlib.Omega.{arith}
use mathlib.Core.Path.{◌≡◌, refl, sym, ap, ◌∙◌, subst}
use mathlib.Core.Bool.{Bool, true, false, not, cond, ◌&&◌}
use mathlib.Core.List.{List, [], ◌∷◌, ◌++◌, map}
use lib.ListN.{set, replicate, length-append, length-replicate}
use lib.Dec.{T, leb, le→leb}
use borrow.Author.Tests.{lt-ltb, le-ltb}
use Rattle.order.specs.Counting.{count}
use Rattle.columns.specs.Columns.{Columns, size, ◌∪◌, ◌∖◌, choose, columns_of}
use Rattle.columns.proofs.Sets.{has, ◌⊆◌, ⊆-by, ⊆-length, has-∖}
use Rattle.columns.proofs.Masks.{columns_of-length, columns_of-minus, minus-fits}
use Rattle.columns.proofs.PutBack.{choose-sound}
use Rattle.masks.specs.Internal.{Walk}
use Rattle.masks.specs.Marks.{holding, holding_columns}
use Rattle.masks.proofs.Marks.{holding-columns, holding-fewer}
use Rattle.masks.proofs.Walks.{values_from, values-leaf, values-none, values-past, values-in, values-all}
use Rattle.adjustment.specs.Passes.{largest_of}
use Rattle.adjustment.proofs.Needed.{largest-under}
use Rattle.figuring.specs.Internal.{Countable, needed_in}

-- ---- the largest of several counts

largest-append : (xs ys : List ℕ) → largest_of (xs ++ ys) ≡ max (largest_of xs) (largest_of ys)
unfolding largest_of
largest-append [] ys = omega arith
largest-append (x ∷ xs) ys = omega (arith, largest-append xs ys)

pub odd-one : (n : ℕ) → (n % 2 ≡ 0 → ⊥) → n % 2 ≡ 1
odd-one n f = omega (arith, f)

-- columns that start at a later place
size-shifted : (j : ℕ) (I : Columns) → size (replicate j false ++ I) ≡ size I
unfolding size count
size-shifted zero I = refl
size-shifted (suc j) I = omega (arith, size-shifted j I)

-- ---- the walk

module _ (ms : List ℕ) (cols k : ℕ) where
  abbrev pub walked : ℕ → ℕ → ℕ → ℕ → ℕ → ℕ
  walked s rest from left best = max best (largest_of (map (λ I. holding_columns k (columns_of cols s ∪ (replicate from false ++ I)) ms) (choose left (columns_of (cols - from) rest))))

  -- no set holds in more rows than what is chosen so far does with fewer columns asked for
  bounded : (s rest from left : ℕ) → from ≤ cols → largest_of (map (λ I. holding_columns k (columns_of cols s ∪ (replicate from false ++ I)) ms) (choose left (columns_of (cols - from) rest))) ≤ holding_columns (k - left) (columns_of cols s) ms
  bounded s rest from left h = largest-under (λ I. holding_columns k (columns_of cols s ∪ (replicate from false ++ I)) ms) (holding_columns (k - left) (columns_of cols s) ms) (choose left (columns_of (cols - from) rest))
      (choose-sound left (columns_of (cols - from) rest) (λ I. leb (holding_columns k (columns_of cols s ∪ (replicate from false ++ I)) ms) (holding_columns (k - left) (columns_of cols s) ms))
      (λ I sub e. le→leb (holding_columns k (columns_of cols s ∪ (replicate from false ++ I)) ms) (holding_columns (k - left) (columns_of cols s) ms)
      (holding-fewer k left (columns_of cols s) (replicate from false ++ I) ms
      (omega (arith, length-append (replicate from false) I, length-replicate from false, ⊆-length sub, columns_of-length (cols - from) rest, columns_of-length cols s)) (omega (arith, size-shifted from I)))))

  module _ (s rest from left best : ℕ) (some : 0 < left) where
    positive : left ≡ 0 → ⊥
    positive z = omega arith

    pub walk_none : rest ≡ 0 → best ≡ walked s rest from left best
    unfolding largest_of
    walk_none z = sym (ap (λ (l : List ℕ). max best (largest_of l)) (values-none (λ K. holding_columns k K ms) cols s rest from left positive z) ∙ omega arith)

    module _ (h : from < cols) where
      pub walk-skip : (r : ℕ) → rest % 2 ≡ 0 → r ≡ walked s (rest / 2) (from + 1) left best → r ≡ walked s rest from left best
      walk-skip r q e = e ∙ ap (λ (l : List ℕ). max best (largest_of l)) (values-past (λ K. holding_columns k K ms) cols s rest from left h positive (λ o. omega arith))

      module _ (odd : rest % 2 ≡ 0 → ⊥) (s' : ℕ) (put : columns_of cols s' ≡ set (columns_of cols s) from true) where
        both : walked s rest from left best ≡ max (walked s' (rest / 2) (from + 1) (left - 1) best) (walked s (rest / 2) (from + 1) left 0)
        both = ap (λ (l : List ℕ). max best (largest_of l)) (sym (values-in (λ K. holding_columns k K ms) cols s rest from left s' h positive (omega (arith, odd)) put))
            ∙ omega (arith, largest-append (values_from (λ K. holding_columns k K ms) cols s' (rest / 2) (from + 1) (left - 1)) (values_from (λ K. holding_columns k K ms) cols s (rest / 2) (from + 1) left))

        -- what was found with the column is taken on to the sets without it
        pub walk-in : (b r : ℕ) → b ≡ walked s' (rest / 2) (from + 1) (left - 1) best → r ≡ walked s (rest / 2) (from + 1) left b → r ≡ walked s rest from left best
        walk-in b r p e = omega (arith, both)

        module _ (c : ℕ) (looked : c ≡ holding_columns (k + 1 - left) (columns_of cols s') ms) where
          pub walk-pruned : (r : ℕ) → c ≤ best → r ≡ walked s (rest / 2) (from + 1) left best → r ≡ walked s rest from left best
          walk-pruned r low e = let q : k + 1 - left ≡ k - (left - 1) = omega arith in
              omega (arith, both, bounded s' (rest / 2) (from + 1) (left - 1) (omega arith), ap (λ (j : ℕ). holding_columns j (columns_of cols s') ms) q)

          pub walk-leaf : (r : ℕ) → best < c → left ≡ 1 → r ≡ walked s (rest / 2) (from + 1) left c → r ≡ walked s rest from left best
          unfolding largest_of
          walk-leaf r high z e = let q : k + 1 - left ≡ k = omega arith in
              omega (
                arith,
                both,
                ap largest_of (values-leaf (λ K. holding_columns k K ms) cols s' (rest / 2) (from + 1) (left - 1) (omega arith) (omega arith)),
                ap (λ (j : ℕ). holding_columns j (columns_of cols s') ms) q,
              )

-- ---- what is needed

module _ {ms : List ℕ} {cols k live passed : ℕ} (w : Countable ms cols k live passed) where
  among : columns_of cols passed ⊆ columns_of cols live
  among = ⊆-by (columns_of cols passed) (columns_of cols live) (columns_of-length cols passed ∙ sym (columns_of-length cols live)) w.inside

  pub passed-within : passed ≤ live
  passed-within = minus-fits cols live passed w.live-fits w.passed-fits among

  remaining : columns_of cols (live - passed) ≡ columns_of cols live ∖ columns_of cols passed
  remaining = columns_of-minus cols live passed w.live-fits w.passed-fits among

  pub remaining-fits : live - passed < 2 ^ cols
  remaining-fits = omega (arith, w.live-fits)

  pub first_walk : Walk cols (live - passed) passed 0
  first_walk = record {
    place = omega arith;
    inside = remaining-fits;
    rests = subst (λ (n : ℕ). passed < 2 ^ n) whole w.passed-fits;
    apart = λ j t. subst (λ (i : ℕ). has (columns_of cols (live - passed)) i ≡ false) (front j) (ap (λ (K : Columns). has K j) remaining ∙ has-∖ (columns_of cols live) (columns_of cols passed) (columns_of-length cols live ∙ sym (columns_of-length cols passed)) j
        ∙ out (has (columns_of cols live) j) (has (columns_of cols passed) j) (subst (λ (n : ℕ). T (has (columns_of n passed) j)) (sym whole) t));
  }
    where
      whole : cols ≡ cols - 0
      whole = omega arith

      front : (j : ℕ) → j ≡ 0 + j
      front j = omega arith

      out : (a b : Bool) → T b → (a && not b) ≡ false
      out true true t = refl
      out false true t = refl
      out a false t = absurd t

  module _ (best : ℕ) where
    pub needed-few : (h r : ℕ) → size (columns_of cols passed) < k → h ≡ holding k live ms → r ≡ max best h → r ≡ max best (needed_in k ms (columns_of cols live) (columns_of cols passed))
    unfolding needed_in
    needed-few h r few e q = q ∙ ap (max best) (e ∙ holding-columns cols k live ms w.cols-most w.live-fits
        ∙ sym (ap (λ (b : Bool). cond b (holding_columns k (columns_of cols live) ms) (largest_of (map (λ I. holding_columns k ((columns_of cols live ∖ columns_of cols passed) ∪ I) ms) (choose (k - 1) (columns_of cols passed))))) (lt-ltb (size (columns_of cols passed)) k few)))

    module _ (many : k ≤ size (columns_of cols passed)) where
      sets : needed_in k ms (columns_of cols live) (columns_of cols passed) ≡ largest_of (values_from (λ K. holding_columns k K ms) cols (live - passed) passed 0 (k - 1))
      unfolding needed_in
      sets = ap (λ (b : Bool). cond b (holding_columns k (columns_of cols live) ms) (largest_of (map (λ I. holding_columns k ((columns_of cols live ∖ columns_of cols passed) ∪ I) ms) (choose (k - 1) (columns_of cols passed))))) (le-ltb (size (columns_of cols passed)) k many)
          ∙ ap (λ (K : Columns). largest_of (map (λ I. holding_columns k (K ∪ I) ms) (choose (k - 1) (columns_of cols passed)))) (sym remaining)
          ∙ ap largest_of (sym (values-all (λ K. holding_columns k K ms) cols (live - passed) passed (k - 1)))

      pub needed-walk : (r : ℕ) → r ≡ walked ms cols k (live - passed) passed 0 (k - 1) best → r ≡ max best (needed_in k ms (columns_of cols live) (columns_of cols passed))
      needed-walk r e = e ∙ ap (max best) (sym sets)

      module _ (c : ℕ) (looked : c ≡ holding 1 (live - passed) ms) where
        looked-at : c ≡ holding_columns 1 (columns_of cols (live - passed)) ms
        looked-at = looked ∙ holding-columns cols 1 (live - passed) ms w.cols-most remaining-fits

        pub needed-bounded : c ≤ best → best ≡ max best (needed_in k ms (columns_of cols live) (columns_of cols passed))
        needed-bounded low = let q : k - (k - 1) ≡ 1 = omega (arith, w.k-many) in
            omega (arith, sets, bounded ms cols k (live - passed) passed 0 (k - 1) (omega arith), ap (λ (j : ℕ). holding_columns j (columns_of cols (live - passed)) ms) q, looked-at)
