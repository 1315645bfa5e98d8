-- Balancing each column by itself: the balanced rows without some columns are those of the rows without them.
--   balanced-part     for the columns of a set L
use Prim.Native.Nat.{ℕ, ◌<◌}
use native.Mathlib.Omega.{arith}
use mathlib.Core.Path.{◌≡◌, sym, ap, ◌∙◌}
use mathlib.Core.List.{List, map, map-map}
use lib.ListN.{length, get_or}
use lib.Seq.{ext_get_or}
use lib.Dec.{T}
use lib.Ieee.{Float, nan}
use Rattle.order.specs.Order.{at_most}
use Rattle.order.proofs.Counts.{count_map, count_same}
use Rattle.order.proofs.Rows.{Sound, sound_row, sound-length, sound-map}
use Rattle.columns.specs.Columns.{Columns, size, within}
use Rattle.columns.proofs.Sets.{within-length}
use Rattle.columns.proofs.Parts.{position, position-lt, within-at}
use Rattle.balance.specs.Balance.{rank, whole, balanced_row, balanced_rows}
use Rattle.balance.proofs.Balanced.{balanced_row-at, balanced_row-length}

module _ (n : ℕ) (X : List (List Float)) (sound : Sound n X) (L : Columns) (len : length L ≡ n) where
  abbrev Y : List (List Float)
  Y = map (within L) X

  rank-part : (i : ℕ) (v : Float) → i < size L → rank (map (within L) X) i v ≡ rank X (position L i) v
  unfolding rank
  rank-part i v h =
      count_map (within L) (λ row. at_most (get_or row i nan) v) X
      ∙ count_same (sound_row n) (λ row. at_most (get_or (within L row) i nan) v) (λ row. at_most (get_or row (position L i) nan) v) X
      (λ row t. ap (λ (x : Float). at_most x v) (within-at L row i nan h (sound-length n row t ∙ sym len))) sound

  module _ (row : List Float) (t : T (sound_row n row)) where
    wide : length row ≡ length L
    wide = sound-length n row t ∙ sym len

    row-length : length (balanced_row X row) ≡ length L
    row-length = balanced_row-length X row ∙ wide

    entry-part : (i : ℕ) → i < size L → get_or (balanced_row X row) (position L i) nan ≡ get_or (balanced_row Y (within L row)) i nan
    entry-part i h =
        balanced_row-at X row (position L i) (omega (arith, position-lt L i h, wide))
        ∙ ap whole (sym (rank-part i (get_or (within L row) i nan) h ∙ ap (rank X (position L i)) (within-at L row i nan h wide)))
        ∙ sym (balanced_row-at Y (within L row) i (omega (arith, within-length L row wide)))

    row-part : within L (balanced_row X row) ≡ balanced_row (map (within L) X) (within L row)
    row-part =
        let m : length (within L (balanced_row X row)) ≡ size L = within-length L (balanced_row X row) row-length in
        ext_get_or nan (within L (balanced_row X row)) (balanced_row Y (within L row)) (m ∙ sym (balanced_row-length Y (within L row) ∙ within-length L row wide))
        (λ i l. let h : i < size L = omega arith in within-at L (balanced_row X row) i nan h row-length ∙ entry-part i h)

  pub balanced-part : map (within L) (balanced_rows X) ≡ balanced_rows (map (within L) X)
  unfolding balanced_rows
  balanced-part =
      map-map (within L) (λ row. balanced_row X row) X
      ∙ sound-map n (λ row. within L (balanced_row X row)) (λ row. balanced_row Y (within L row)) X sound row-part
      ∙ sym (map-map (λ row. balanced_row Y row) (within L) X)
