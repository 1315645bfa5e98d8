-- Columns that are not live have no part in the figures of the others: these are the figures of the table without them.
--   figures-without     of the live columns, in their order
use Prim.Native.Nat.{ℕ, ◌<◌}
use native.Mathlib.Omega.{arith}
use mathlib.Core.Path.{◌≡◌, sym, ap, fun_ext, ◌∙◌}
use mathlib.Core.List.{List, map}
use lib.ListN.{length}
use lib.Seq.{ext_get_or}
use lib.Ieee.{Float}
use Rattle.order.specs.Order.{plus_zero}
use Rattle.order.proofs.Rows.{Sound}
use Rattle.columns.specs.Columns.{Columns, size, within, columns_of, full_mask}
use Rattle.columns.proofs.Sets.{within-length}
use Rattle.columns.proofs.Masks.{columns_of-length}
use Rattle.columns.proofs.Parts.{position, position-lt, within-at}
use Rattle.runs.specs.FullRuns.{is_rejected}
use Rattle.runs.specs.declared.Verdict.TheVariants.{Kept}
use Rattle.runs.proofs.Without.{verdict-without}
use Rattle.adjustment.specs.Adjusted.{least_below, rejected_at, adjusted_figure, adjusted_figures}
use Rattle.adjustment.proofs.Figures.{figures-length, figures-at}

module _ (X : List (List Float)) (rows columns k observed live : ℕ) (sound : Sound columns X) (seen : observed < length X) where
  abbrev L : Columns
  L = columns_of columns live

  long : length (columns_of columns live) ≡ columns
  long = columns_of-length columns live

  -- the method rejects it at the same e, and so at the same least one
  figure-without : (i : ℕ) → i < size L → adjusted_figure X rows columns k observed live (position L i) ≡ adjusted_figure (map (within L) X) rows (size L) k observed (full_mask (size L)) i
  unfolding adjusted_figure rejected_at
  figure-without i h = ap (least_below rows) (fun_ext (λ e. ap is_rejected (verdict-without X rows columns k e observed live sound seen i h (Kept plus_zero))))

  pub figures-without : within (columns_of columns live) (adjusted_figures X rows columns k observed live)
      ≡ adjusted_figures (map (within (columns_of columns live)) X) rows (size (columns_of columns live)) k observed (full_mask (size (columns_of columns live)))
  figures-without =
      let fs = adjusted_figures X rows columns k observed live in
      let gs = adjusted_figures (map (within L) X) rows (size L) k observed (full_mask (size L)) in
      let l : length fs ≡ length L = figures-length X rows columns k observed live ∙ sym long in
      let m : length (within L fs) ≡ size L = within-length L fs l in
      ext_get_or 0 (within L fs) gs (m ∙ sym (figures-length (map (within L) X) rows (size L) k observed (full_mask (size L))))
      (λ i q. let h : i < size L = omega arith in
      within-at L fs i 0 h l ∙ figures-at X rows columns k observed live (position L i) (omega (arith, position-lt L i h, long)) ∙ figure-without i h
      ∙ sym (figures-at (map (within L) X) rows (size L) k observed (full_mask (size L)) i h))
