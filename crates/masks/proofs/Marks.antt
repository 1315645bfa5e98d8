-- What the marks of a table's rows tell of a set of columns.
--   row-some, row-holds     what the mark of a row tells of a set
--   marks-counted      how many rows have k columns of K that pass the test
--   holding-columns    a set as a mask, and as a Bool for each column
--   mark-narrow        by a narrower test a row has no more columns
--   holding-more       a set with more columns is held by as many rows or more
--   holding-fewer      with up to j columns more, at most as many rows hold k as now hold k - j
use Prim.Native.Nat.{ℕ, ◌+◌, ◌-◌, ◌^◌, ◌≤◌, ◌<◌}
use native.Mathlib.Omega.{arith}
use mathlib.Core.Path.{◌≡◌, refl, sym, ap, ap₂, ◌∙◌}
use mathlib.Core.Bool.{Bool, true, false, cond, ◌&&◌}
use mathlib.Core.List.{List, [], ◌∷◌, map, zip_with}
use lib.ListN.{length, length-map}
use lib.Dec.{T, leb, leb→le, le→leb}
use lib.Ieee.{Float}
use Rattle.order.specs.Counting.{bit, count, all}
use Rattle.order.proofs.Booleans.{and_left, and_right, T_false, never}
use Rattle.order.specs.Order.{finite}
use Rattle.order.proofs.Counts.{count-le, count-le-all, count-same-all, count_map}
use Rattle.order.proofs.Rows.{Sound, sound_row, sound-length}
use Rattle.columns.specs.Columns.{Columns, size, ◌∩◌, ◌∪◌, columns_of}
use Rattle.columns.proofs.Sets.{◌⊆◌, none, more, ⊆-length, size_mono, length-∪}
use Rattle.columns.proofs.Masks.{columns_of-length, columns_of-mask_of}
use Rattle.columns.proofs.PutBack.{meet-size, join-meets}
use Rattle.masks.specs.Marks.{mark_of, holds, holding, those, marks_of, holding_columns}
use Rattle.masks.proofs.SetSizes.{size-mask, and-size}

-- ---- one row

and-swap : (a b : Bool) → (a && b) ≡ (b && a)
and-swap true true = refl
and-swap true false = refl
and-swap false true = refl
and-swap false false = refl

meet-swap : (K L : Columns) → K ∩ L ≡ L ∩ K
unfolding ◌∩◌ zip_with
meet-swap [] [] = refl
meet-swap [] (b ∷ L) = refl
meet-swap (a ∷ K) [] = refl
meet-swap (a ∷ K) (b ∷ L) = ap₂ (λ (c : Bool) (M : Columns). c ∷ M) (and-swap a b) (meet-swap K L)

module _ (n k : ℕ) (p : Float → Bool) (h : n ≤ 32) (K : Columns) (e : length K ≡ n) (row : List Float) (f : length row ≡ n) where
  wide : length (map p row) ≡ n
  wide = length-map row p ∙ f

  row-meets : columns_of (length K) (mark_of p row) ∩ K ≡ K ∩ map p row
  row-meets = meet-swap (columns_of (length K) (mark_of p row)) K ∙ ap (λ (L : Columns). K ∩ L) (ap (λ (i : ℕ). columns_of i (mark_of p row)) (e ∙ sym wide) ∙ columns_of-mask_of (map p row))

  -- a row that has k columns of some set has k columns
  pub row-some : T (leb k (size (K ∩ map p row))) → T (leb k (size (columns_of 32 (mark_of p row))))
  row-some t = le→leb k (size (columns_of 32 (mark_of p row))) (omega (arith, leb→le k (size (K ∩ map p row)) t, meet-size K (map p row), size-mask 32 (map p row) (omega (arith, wide))))

  row-never : leb k (size (columns_of 32 (mark_of p row))) ≡ false → leb k (size (K ∩ map p row)) ≡ false
  row-never q = T_false (leb k (size (K ∩ map p row))) (λ t. never (leb k (size (columns_of 32 (mark_of p row)))) q (row-some t))

pub row-holds : (n k s : ℕ) (p : Float → Bool) (row : List Float) → n ≤ 32 → s < 2 ^ n → length row ≡ n → holds k s (mark_of p row) ≡ leb k (size (columns_of n s ∩ map p row))
row-holds n k s p row h l f = ap (leb k) (and-size 32 n (mark_of p row) s h l ∙ ap size (ap (λ (i : ℕ). columns_of i (mark_of p row) ∩ columns_of n s) (sym (columns_of-length n s)) ∙ row-meets n k p h (columns_of n s) (columns_of-length n s) row f))

pub mark-narrow : (p q : Float → Bool) (row : List Float) → length row ≤ 32 → T (all finite row) → ((x : Float) → T (finite x) → T (q x) → T (p x)) → size (columns_of 32 (mark_of q row)) ≤ size (columns_of 32 (mark_of p row))
unfolding size
mark-narrow p q row h f g = omega (
  arith,
  size-mask 32 (map q row) (omega (arith, length-map row q)),
  size-mask 32 (map p row) (omega (arith, length-map row p)),
  count_map q (λ b. b) row,
  count_map p (λ b. b) row,
  count-le finite q p row g f,
)

meet-sub : (M : Columns) {K L : Columns} → K ⊆ L → (M ∩ K) ⊆ (M ∩ L)
unfolding ◌∩◌ zip_with
meet-sub [] sub = none
meet-sub (a ∷ M) none = none
meet-sub (a ∷ M) (more {a = b} {b = c} f sub) = more (both a b c f) (meet-sub M sub)
  where
    both : (a b c : Bool) → (T b → T c) → T (a && b) → T (a && c)
    both true b c f t = f t
    both false b c f t = t

-- ---- all rows

module _ (n k : ℕ) (p : Float → Bool) where
  pub marks-counted : (X : List (List Float)) → Sound n X → n ≤ 32 → (K : Columns) → length K ≡ n → holding_columns k K (marks_of k p X) ≡ count (λ row. leb k (size (K ∩ map p row))) X
  unfolding holding_columns marks_of those count all
  marks-counted [] s h K e = refl
  marks-counted (row ∷ X) s h K e = go (leb k (size (columns_of 32 (mark_of p row)))) refl (marks-counted X (and_right (sound_row n row) (all (sound_row n) X) s) h K e)
    where
      f : length row ≡ n
      f = sound-length n row (and_left (sound_row n row) (all (sound_row n) X) s)

      go : (b : Bool) → leb k (size (columns_of 32 (mark_of p row))) ≡ b → holding_columns k K (marks_of k p X) ≡ count (λ row. leb k (size (K ∩ map p row))) X
          → holding_columns k K (cond b (mark_of p row ∷ marks_of k p X) (marks_of k p X)) ≡ bit (leb k (size (K ∩ map p row))) + count (λ row. leb k (size (K ∩ map p row))) X
      go true q ih = ap₂ (λ (x y : ℕ). x + y) (ap (λ (L : Columns). bit (leb k (size L))) (row-meets n k p h K e row f)) ih
      go false q ih = omega (arith, ih, ap bit (row-never n k p h K e row f q))

-- ---- sets

pub holding-columns : (n k s : ℕ) (ms : List ℕ) → n ≤ 32 → s < 2 ^ n → holding k s ms ≡ holding_columns k (columns_of n s) ms
unfolding holding holding_columns
holding-columns n k s ms h l = count-same-all (holds k s) (λ m. leb k (size (columns_of (length (columns_of n s)) m ∩ columns_of n s))) ms
    (λ m. ap (leb k) (and-size 32 n m s h l ∙ ap (λ (i : ℕ). size (columns_of i m ∩ columns_of n s)) (sym (columns_of-length n s))))

pub holding-more : (k : ℕ) {K L : Columns} (ms : List ℕ) → K ⊆ L → holding_columns k K ms ≤ holding_columns k L ms
unfolding holding_columns
holding-more k {K} {L} ms sub = count-le-all (λ m. leb k (size (columns_of (length K) m ∩ K))) (λ m. leb k (size (columns_of (length L) m ∩ L))) ms
    (λ m t. le→leb k (size (columns_of (length L) m ∩ L)) (omega (arith, leb→le k (size (columns_of (length K) m ∩ K)) t, ap (λ (n : ℕ). size (columns_of n m ∩ L)) (⊆-length sub), meet-more (columns_of (length K) m) sub)))
  where
    meet-more : (M : Columns) {K L : Columns} → K ⊆ L → size (M ∩ K) ≤ size (M ∩ L)
    meet-more M sub = size_mono (meet-sub M sub)

pub holding-fewer : (k j : ℕ) (K I : Columns) (ms : List ℕ) → length I ≡ length K → size I ≤ j → holding_columns k (K ∪ I) ms ≤ holding_columns (k - j) K ms
unfolding holding_columns
holding-fewer k j K I ms e h = count-le-all (λ m. leb k (size (columns_of (length (K ∪ I)) m ∩ (K ∪ I)))) (λ m. leb (k - j) (size (columns_of (length K) m ∩ K))) ms more
  where
    more : (m : ℕ) → T (leb k (size (columns_of (length (K ∪ I)) m ∩ (K ∪ I)))) → T (leb (k - j) (size (columns_of (length K) m ∩ K)))
    more m t = le→leb (k - j) (size (columns_of (length K) m ∩ K)) (omega (
      arith,
      leb→le k (size (columns_of (length (K ∪ I)) m ∩ (K ∪ I))) t,
      ap (λ (i : ℕ). size (columns_of i m ∩ (K ∪ I))) (length-∪ K I (sym e)),
      ap size (meet-swap (columns_of (length K) m) (K ∪ I)),
      join-meets K I (columns_of (length K) m) (sym e),
      ap size (meet-swap K (columns_of (length K) m)),
    ))
