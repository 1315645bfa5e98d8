-- One pass down the observed values gives the adjusted figures.
--   k_max_pass-agrees    for every k, where k or more columns are live
--   maximum-is           for k = 1 the pass over maxima is that pass
--   maximum_pass-agrees  so it gives them too
use Prim.Native.Nat.{ℕ, zero, suc, ◌≤◌, ◌<◌, max}
use native.Mathlib.Omega.{arith}
use mathlib.Core.Path.{◌≡◌, refl, sym, ap, ap₂, ◌∙◌, subst}
use mathlib.Core.Logic.{◌↔◌}
use mathlib.Core.Bool.{Bool, true, false, cond}
use mathlib.Core.List.{List, [], map}
use lib.ListN.{length, get_or, set, replicate, length-set, length-replicate, get_or-replicate}
use lib.Seq.{ext_get_or, get_or-set_same, get_or-set_other}
use lib.Dec.{eqb, T}
use lib.Ieee.{Float, nan}
use borrow.Author.Tests.{eqb-true, eqb-false, ne_eqb}
use Rattle.order.specs.Lists.{tabulate}
use Rattle.order.proofs.Booleans.{never, true-T}
use Rattle.order.proofs.Lists.{tabulate-length, tabulate-get_d}
use Rattle.order.proofs.Rows.{Sound, sound_row}
use Rattle.columns.specs.Columns.{Columns, size, ◌∖◌, columns_of}
use Rattle.columns.proofs.Sets.{has, has-length, ◌⊆◌, ⊆-length, length-∖, some-column, empty-under}
use Rattle.columns.proofs.Masks.{columns_of-length}
use Rattle.columns.proofs.Remaining.{left-all, left-with, without_in, without-same, without_gone}
use Rattle.runs.proofs.RejectedSets.{row-sound}
use Rattle.adjustment.specs.Adjusted.{rejected_at, adjusted_figure, adjusted_figures}
use Rattle.adjustment.specs.Passes.{top_column, maximum_from, maximum_pass, k_max_from, k_max_pass}
use Rattle.adjustment.proofs.Figures.{rejected-set, figure-is}
use Rattle.adjustment.proofs.Needed.{needed-one}
use Rattle.adjustment.proofs.PassFigures.{figure_from, figure_here, figure_from-most, here, next-inside, next-size, pass-law}

-- ---- the pass writes down what each column sees

module _ (k : ℕ) (X : List (List Float)) (live : Columns) (row : List Float) (own : T (sound_row (length live) row)) where
  abbrev top : Columns → ℕ
  top R = top_column (live ∖ R) row

  abbrev fig : Columns → ℕ → ℕ
  fig R m = figure_here k X live row R m

  from-length : (n : ℕ) (R : Columns) (m : ℕ) (fs : List ℕ) → length (k_max_from n k X live row R m fs) ≡ length fs
  unfolding k_max_from
  from-length zero R m fs = refl
  from-length (suc n) R m fs = from-length n (set R (top R) true) (fig R m) (set fs (top R) (fig R m)) ∙ length-set fs (top R) (fig R m)

  module _ (R : Columns) (n : ℕ) (j : ℕ) where
    -- a column that is not left is not left later, nor is the one that is passed
    out-later : (T (has (live ∖ R) j) → ⊥) → T (has (live ∖ set R (top_column (live ∖ R) row) true) j) → ⊥
    out-later f t = f (without_in (live ∖ R) (top R) j (subst (λ (K : Columns). T (has K j)) (left-with live R (top R)) t))

    out-passed : top_column (live ∖ R) row ≡ j → T (has (live ∖ set R (top_column (live ∖ R) row) true) j) → ⊥
    out-passed q t = without_gone (live ∖ R) (top R) (subst (λ (l : ℕ). T (has (set (live ∖ R) (top R) false) l)) (sym q) (subst (λ (K : Columns). T (has K j)) (left-with live R (top R)) t))

    in-later : (top_column (live ∖ R) row ≡ j → ⊥) → T (has (live ∖ R) j) → T (has (live ∖ set R (top_column (live ∖ R) row) true) j)
    in-later f t = subst (λ (b : Bool). T b) (sym (ap (λ (K : Columns). has K j) (left-with live R (top R)) ∙ without-same (live ∖ R) (top R) j f)) t

    not-here : R ⊆ live → size (live ∖ R) ≡ suc n → (T (has (live ∖ R) j) → ⊥) → top_column (live ∖ R) row ≡ j → ⊥
    not-here inside z f q = f (subst (λ (l : ℕ). T (has (live ∖ R) l)) q (here live row own R inside (omega arith)))

  -- a column that is not left keeps its figure
  from-kept : (n : ℕ) (R : Columns) (m : ℕ) (fs : List ℕ) (j d : ℕ) → R ⊆ live → size (live ∖ R) ≡ n → (T (has (live ∖ R) j) → ⊥) → get_or (k_max_from n k X live row R m fs) j d ≡ get_or fs j d
  unfolding k_max_from
  from-kept zero R m fs j d inside z f = refl
  from-kept (suc n) R m fs j d inside z f =
      from-kept n (set R (top R) true) (fig R m) (set fs (top R) (fig R m)) j d (next-inside live row own R inside (omega arith)) (next-size live row own R inside (omega arith) n z) (out-later R n j f)
      ∙ get_or-set_other fs (top R) j (fig R m) d (λ q. not-here R n j inside z f (sym q))

  from-figure : (n : ℕ) (R : Columns) (m : ℕ) (fs : List ℕ) (j d : ℕ) → R ⊆ live → length fs ≡ length live → size (live ∖ R) ≡ n → T (has (live ∖ R) j) → get_or (k_max_from n k X live row R m fs) j d ≡ figure_from n k X live row R m j
  unfolding k_max_from figure_from
  from-figure zero R m fs j d inside l z t = absurd (omega (arith, some-column (live ∖ R) j t))
  from-figure (suc n) R m fs j d inside l z t =
      go (eqb i j) refl (from-figure n (set R i true) v (set fs i v) j d (next-inside live row own R inside (omega arith)) (length-set fs i v ∙ l) (next-size live row own R inside (omega arith) n z))
    where
      i : ℕ
      i = top_column (live ∖ R) row

      v : ℕ
      v = fig R m

      go : (b : Bool) → eqb i j ≡ b → (T (has (live ∖ set R i true) j) → get_or (k_max_from n k X live row (set R i true) v (set fs i v)) j d ≡ figure_from n k X live row (set R i true) v j)
          → get_or (k_max_from n k X live row (set R i true) v (set fs i v)) j d ≡ cond b v (figure_from n k X live row (set R i true) v j)
      go true q on =
          from-kept n (set R i true) v (set fs i v) j d (next-inside live row own R inside (omega arith)) (next-size live row own R inside (omega arith) n z) (out-passed R n j (eqb-true i j q))
          ∙ ap (λ (x : ℕ). get_or (set fs i v) x d) (sym (eqb-true i j q))
          ∙ get_or-set_same fs i v d (omega (arith, l, has-length (live ∖ R) i (here live row own R inside (omega arith)), length-∖ live R (sym (⊆-length inside))))
      go false q on = on (in-later R n j (eqb-false i j q) t)

  figure-out : (n : ℕ) (R : Columns) (m j : ℕ) → R ⊆ live → size (live ∖ R) ≡ n → (T (has (live ∖ R) j) → ⊥) → figure_from n k X live row R m j ≡ length X
  unfolding figure_from
  figure-out zero R m j inside z f = refl
  figure-out (suc n) R m j inside z f =
      ap (λ (b : Bool). cond b (fig R m) (figure_from n k X live row (set R (top R) true) (fig R m) j)) (ne_eqb (top R) j (not-here R n j inside z f))
      ∙ figure-out n (set R (top R) true) (fig R m) j (next-inside live row own R inside (omega arith)) (next-size live row own R inside (omega arith) n z) (out-later R n j f)

-- ---- all columns

module _ (k : ℕ) (X : List (List Float)) (live : Columns) (o : ℕ) (sound : Sound (length live) X) (seen : o < length X) where
  own : T (sound_row (length live) (get_or X o []))
  own = row-sound k 0 X live o sound seen

  pass-length : length (k_max_pass k X live o) ≡ length live
  unfolding k_max_pass
  pass-length = from-length k X live (get_or X o []) own (size live) (map (λ _. false) live) 0 (replicate (length live) (length X)) ∙ length-replicate (length live) (length X)

  pass-at : (j : ℕ) → j < length live → get_or (k_max_pass k X live o) j 0 ≡ figure_from (size live) k X live (get_or X o []) (map (λ _. false) live) 0 j
  unfolding k_max_pass
  pass-at j h = go (has live j) refl
    where
      nothing : map (λ _. false) live ⊆ live
      nothing = empty-under live live refl

      whole : size (live ∖ map (λ _. false) live) ≡ size live
      whole = ap size (left-all live)

      go : (b : Bool) → has live j ≡ b → get_or (k_max_from (size live) k X live (get_or X o []) (map (λ _. false) live) 0 (replicate (length live) (length X))) j 0 ≡ figure_from (size live) k X live (get_or X o []) (map (λ _. false) live) 0 j
      go true q = from-figure k X live (get_or X o []) own (size live) (map (λ _. false) live) 0 (replicate (length live) (length X)) j 0 nothing (length-replicate (length live) (length X)) whole
          (subst (λ (K : Columns). T (has K j)) (sym (left-all live)) (true-T (has live j) q))
      go false q =
          from-kept k X live (get_or X o []) own (size live) (map (λ _. false) live) 0 (replicate (length live) (length X)) j 0 nothing whole out
          ∙ get_or-replicate (length live) j (length X) 0 h ∙ sym (figure-out k X live (get_or X o []) own (size live) (map (λ _. false) live) 0 j nothing whole out)
        where
          out : T (has (live ∖ map (λ _. false) live) j) → ⊥
          out t = never (has live j) q (subst (λ (K : Columns). T (has K j)) (left-all live) t)

-- ---- it gives the adjusted figures

module _ (X : List (List Float)) (rows columns k observed live : ℕ) (sound : Sound columns X) (tall : rows ≡ length X) (seen : observed < rows) (narrow : columns ≤ 32)
    (pos : 0 < k) (held : k ≤ size (columns_of columns live)) where
  abbrev L : Columns
  L = columns_of columns live

  abbrev told : ℕ → ℕ
  told j = figure_from (size (columns_of columns live)) k X (columns_of columns live) (get_or X observed []) (map (λ _. false) (columns_of columns live)) 0 j

  wide : length (columns_of columns live) ≡ columns
  wide = columns_of-length columns live

  sound-set : Sound (length (columns_of columns live)) X
  sound-set = subst (λ (n : ℕ). Sound n X) (sym wide) sound

  told-law : (j : ℕ) → j < columns → (e : ℕ) → e < rows → (told j ≤ e) ↔ T (rejected_at X rows columns k observed live e j)
  told-law j h e rare = subst (λ (b : Bool). (told j ≤ e) ↔ T b) (sym (rejected-set X rows columns k observed live j h sound tall seen narrow pos held e))
      (pass-law k e X L observed sound-set (omega arith) (omega (arith, wide)) pos held (omega arith) j)

  figure-told : (j : ℕ) → j < columns → adjusted_figure X rows columns k observed live j ≡ told j
  figure-told j h = figure-is X rows columns k observed live j (told j) (omega (arith, figure_from-most k X L (get_or X observed []) (size L) (map (λ _. false) L) 0 j (omega arith))) (told-law j h)

  pub k_max_pass-agrees : k_max_pass k X (columns_of columns live) observed ≡ adjusted_figures X rows columns k observed live
  unfolding adjusted_figures
  k_max_pass-agrees = ext_get_or 0 (k_max_pass k X L observed) (tabulate columns (λ j. adjusted_figure X rows columns k observed live j))
      (pass-length k X L observed sound-set (omega arith) ∙ wide ∙ sym (tabulate-length columns (λ j. adjusted_figure X rows columns k observed live j)))
      (λ j h. let l : j < columns = omega (arith, pass-length k X L observed sound-set (omega arith), wide) in
      pass-at k X L observed sound-set (omega arith) j (omega (arith, wide)) ∙ sym (figure-told j l) ∙ sym (tabulate-get_d columns (λ j. adjusted_figure X rows columns k observed live j) j 0 l))

-- ---- k = 1

maximum-from : (X : List (List Float)) (live : Columns) (row : List Float) → T (sound_row (length live) row)
    → (n : ℕ) (R : Columns) (m : ℕ) (fs : List ℕ) → R ⊆ live → size (live ∖ R) ≡ n → maximum_from n X row (live ∖ R) m fs ≡ k_max_from n 1 X live row R m fs
unfolding maximum_from k_max_from
maximum-from X live row own zero R m fs inside z = refl
maximum-from X live row own (suc n) R m fs inside z =
    ap₂ (λ (A : Columns) (v : ℕ). maximum_from n X row A v (set fs (top_column (live ∖ R) row) v)) (sym (left-with live R (top_column (live ∖ R) row)))
    (ap (λ (r : ℕ). max m r) (sym (needed-one X live R (get_or row (top_column (live ∖ R) row) nan) inside)))
    ∙ maximum-from X live row own n (set R (top_column (live ∖ R) row) true) (figure_here 1 X live row R m) (set fs (top_column (live ∖ R) row) (figure_here 1 X live row R m))
    (next-inside live row own R inside (omega arith)) (next-size live row own R inside (omega arith) n z)

pub maximum-is : (X : List (List Float)) (live : Columns) (o : ℕ) → Sound (length live) X → o < length X → maximum_pass X live o ≡ k_max_pass 1 X live o
unfolding maximum_pass k_max_pass
maximum-is X live o sound seen =
    ap (λ (A : Columns). maximum_from (size live) X (get_or X o []) A 0 (replicate (length live) (length X))) (sym (left-all live))
    ∙ maximum-from X live (get_or X o []) (row-sound 1 0 X live o sound seen) (size live) (map (λ _. false) live) 0 (replicate (length live) (length X)) (empty-under live live refl) (ap size (left-all live))

pub maximum_pass-agrees : (X : List (List Float)) (rows columns observed live : ℕ) → Sound columns X → rows ≡ length X → observed < rows → columns ≤ 32 → 0 < size (columns_of columns live)
    → maximum_pass X (columns_of columns live) observed ≡ adjusted_figures X rows columns 1 observed live
maximum_pass-agrees X rows columns observed live sound tall seen narrow some =
    maximum-is X (columns_of columns live) observed (subst (λ (n : ℕ). Sound n X) (sym (columns_of-length columns live)) sound) (omega arith)
    ∙ k_max_pass-agrees X rows columns 1 observed live sound tall seen narrow (omega arith) some
