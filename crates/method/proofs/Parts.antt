-- The method on a table without the columns outside a set L: what is worked out of sets that L holds is the same (columns/proofs/Parts.antt).
--   at_least-part      a column's count
--   critical-part      c(K)
--   put_back-part      the put-back value
--   k_max_column-part, bar_row-part, bar_set-part  which column set a critical value, in which row and over which set
use Prim.Native.Nat.{ℕ, zero, suc, ◌-◌, ◌<◌}
use mathlib.Core.Path.{◌≡◌, refl, sym, ap, ap₂, ◌∙◌}
use mathlib.Core.Bool.{Bool}
use mathlib.Core.List.{List, [], ◌∷◌, map, map-map}
use lib.ListN.{length, get_or, length-map}
use lib.Dec.{T}
use lib.Ieee.{Float, nan}
use Rattle.order.specs.Order.{at_most, equal}
use Rattle.order.specs.Lists.{first_at}
use Rattle.order.proofs.Counts.{count_map, count_same}
use Rattle.order.proofs.Firsts.{first-map, first-same}
use Rattle.order.proofs.Rows.{Sound, sound_row, sound-length, sound-map}
use Rattle.select.specs.Rank.{kth_largest, mth_smallest}
use Rattle.columns.specs.Columns.{Columns, size, ◌∪◌, ◌∩◌, within, choose, equal_to, lowest}
use Rattle.columns.proofs.Sets.{◌⊆◌, ⊆-length, ⊆-trans, ∪-in, ∩-in}
use Rattle.columns.proofs.Parts.{within-map, within-∪, within-∩, within_same, within-choose, choose-same, position, within-at, lowest-part}
use Rattle.method.specs.Method.{k_max, critical_value, put_back, at_least}
use Rattle.method.specs.Bars.{k_max_column, bar_set, bar_row}

module _ (n : ℕ) (X : List (List Float)) (sound : Sound n X) (L : Columns) (len : length L ≡ n) where
  pub at_least-part : (v : Float) (i : ℕ) → i < size L → at_least (map (within L) X) v i ≡ at_least X v (position L i)
  unfolding at_least
  at_least-part v i h =
      count_map (within L) (λ row. at_most v (get_or row i nan)) X
      ∙ count_same (sound_row n) (λ row. at_most v (get_or (within L row) i nan)) (λ row. at_most v (get_or row (position L i) nan)) X
      (λ row t. ap (at_most v) (within-at L row i nan h (sound-length n row t ∙ sym len))) sound

module _ (n k e : ℕ) (X : List (List Float)) (sound : Sound n X) (L : Columns) (len : length L ≡ n) where
  k_max-part : {K : Columns} → K ⊆ L → (row : List Float) → T (sound_row n row) → k_max k (within L K) (within L row) ≡ k_max k K row
  unfolding k_max
  k_max-part s row t = ap (kth_largest k) (within_same row s (sound-length n row t ∙ sym len))

  pub critical-part : {K : Columns} → K ⊆ L → critical_value k e (map (within L) X) (within L K) ≡ critical_value k e X K
  unfolding critical_value
  critical-part {K} s =
      ap₂ (λ (m : ℕ) (vs : List Float). mth_smallest (m - e) vs) (length-map X (within L))
      (map-map (λ row. k_max k (within L K) row) (within L) X ∙ sound-map n (λ row. k_max k (within L K) (within L row)) (λ row. k_max k K row) X sound (k_max-part s))

  pub put_back-part : {A R : Columns} → A ⊆ L → R ⊆ L → put_back k e (map (within L) X) (within L A) (within L R) ≡ put_back k e X A R
  unfolding put_back
  put_back-part {A} {R} a r =
      ap (kth_largest 1)
      (ap (map (λ I. critical_value k e (map (within L) X) (within L A ∪ I))) (within-choose (k - 1) r)
      ∙ map-map (λ I. critical_value k e (map (within L) X) (within L A ∪ I)) (within L) (choose (k - 1) R)
      ∙ choose-same (k - 1) R (λ I. critical_value k e (map (within L) X) (within L A ∪ within L I)) (λ I. critical_value k e X (A ∪ I))
      (λ I s. let i = ⊆-trans s r in
      ap (critical_value k e (map (within L) X)) (sym (within-∪ L A I (⊆-length a ∙ sym (⊆-length i)))) ∙ critical-part (∪-in a i)))

  -- ---- which column set a critical value

  pub k_max_column-part : {K : Columns} → K ⊆ L → (row : List Float) → T (sound_row n row) → position L (k_max_column k (within L K) (within L row)) ≡ k_max_column k K row
  unfolding k_max_column equal_to
  k_max_column-part {K} s row t =
      ap (λ (v : Float). position L (lowest (within L K ∩ equal_to v (within L row)))) (k_max-part s row t)
      ∙ ap (λ (E : Columns). position L (lowest (within L K ∩ E))) (sym (within-map (λ x. equal (k_max k K row) x) L row))
      ∙ ap (λ (E : Columns). position L (lowest E)) (sym (within-∩ L K (equal_to (k_max k K row) row) even))
      ∙ lowest-part (∩-in s (equal_to (k_max k K row) row) even)
    where
      even : length K ≡ length (map (λ x. equal (k_max k K row) x) row)
      even = ⊆-length s ∙ len ∙ sym (length-map row _ ∙ sound-length n row t)

  pub bar_row-part : {K : Columns} → K ⊆ L → (c : Float) → bar_row k (map (within L) X) (within L K) c ≡ bar_row k X K c
  unfolding bar_row
  bar_row-part {K} s c =
      first-map (within L) (λ row. equal c (k_max k (within L K) row)) X
      ∙ first-same (sound_row n) (λ row. equal c (k_max k (within L K) (within L row))) (λ row. equal c (k_max k K row)) X (λ row t. ap (equal c) (k_max-part s row t)) sound

  pub bar_set-part : {A R : Columns} → A ⊆ L → R ⊆ L → (c : Float)
      → bar_set k e (map (within L) X) (map (λ I. within L A ∪ I) (choose (k - 1) (within L R))) c ≡ within L (bar_set k e X (map (λ I. A ∪ I) (choose (k - 1) R)) c)
  unfolding bar_set
  bar_set-part {A} {R} a r c =
      let Is = choose (k - 1) R in
      let told : List Columns → Columns = λ Ks. get_or Ks (first_at (λ K. equal c (critical_value k e (map (within L) X) K)) Ks) [] in
      ap (λ (Js : List Columns). told (map (λ I. within L A ∪ I) Js)) (within-choose (k - 1) r)
      ∙ ap told (map-map (λ I. within L A ∪ I) (within L) Is ∙ choose-same (k - 1) R (λ I. within L A ∪ within L I) (λ I. within L (A ∪ I)) (λ I s. sym (within-∪ L A I (⊆-length a ∙ sym (⊆-length (⊆-trans s r))))) ∙ sym (map-map (within L) (λ I. A ∪ I) Is))
      ∙ ap (λ (i : ℕ). get_or (map (within L) (map (λ I. A ∪ I) Is)) i []) places
      ∙ seen (map (λ I. A ∪ I) Is) (first_at (λ K. equal c (critical_value k e X K)) (map (λ I. A ∪ I) Is))
    where
      none : (L : Columns) → within {A = Bool} L [] ≡ []
      none [] = refl
      none (b ∷ L) = refl

      seen : (Ks : List Columns) (i : ℕ) → get_or (map (within L) Ks) i [] ≡ within L (get_or Ks i [])
      seen [] i = sym (none L)
      seen (K ∷ Ks) zero = refl
      seen (K ∷ Ks) (suc i) = seen Ks i

      places : first_at (λ K. equal c (critical_value k e (map (within L) X) K)) (map (within L) (map (λ I. A ∪ I) (choose (k - 1) R))) ≡ first_at (λ K. equal c (critical_value k e X K)) (map (λ I. A ∪ I) (choose (k - 1) R))
      places =
          let Is = choose (k - 1) R in
          let Y = map (within L) X in
          first-map (within L) (λ K. equal c (critical_value k e Y K)) (map (λ I. A ∪ I) Is)
          ∙ first-map (λ I. A ∪ I) (λ K. equal c (critical_value k e Y (within L K))) Is
          ∙ sym (first-map (λ I. equal c (critical_value k e Y (within L (A ∪ I)))) (λ b. b) Is)
          ∙ ap (first_at (λ b. b)) (choose-same (k - 1) R (λ I. equal c (critical_value k e Y (within L (A ∪ I)))) (λ I. equal c (critical_value k e X (A ∪ I))) (λ I s. ap (equal c) (critical-part (∪-in a (⊆-trans s r)))))
          ∙ first-map (λ I. equal c (critical_value k e X (A ∪ I))) (λ b. b) Is
          ∙ sym (first-map (λ I. A ∪ I) (λ K. equal c (critical_value k e X K)) Is)
