-- The pass, as one column sees it, and the method at e.
-- A column's figure is at most e exactly where the method rejects it at e. R is what is passed so far, and i the column that the pass comes to.
-- Where the figure of j is at most e, every column down to j is rejected: if R is, and i were left at the end, it would lie no higher than the critical value of the end,
-- and so no higher than that with R rejected (critical_at-falls), but i needs no more than e. Where the figure is above e, the first column i that needs more than e lies no higher
-- than the critical value with R rejected, nor do the others left, and so the method never rejects a column outside R.
--   figure_from         column j's figure, told by the pass when it comes to j: M where j is passed already or not live
--   figure_here         the figure of the column that the pass comes to
--   figure_from-most    figures are at most M
--   here, next-..       the column that the pass comes to is left; what is passed after it, and how many are left
--   pass-law            the law above
use Prim.Native.Nat.{ℕ, zero, suc, ◌≤◌, ◌<◌, max}
use native.Mathlib.Omega.{arith}
use native.Mathlib.Nat.{le-max_left, le-max_right, max-le}
use native.Mathlib.Decide.{dec_le}
use mathlib.Core.Path.{◌≡◌, refl, sym, ap, ◌∙◌, subst}
use mathlib.Core.Logic.{◌↔◌}
use mathlib.Core.Bool.{Bool, true, false, cond}
use mathlib.Core.List.{List, [], map}
use lib.ListN.{length, get_or, set}
use lib.Dec.{eqb, T}
use lib.Ieee.{Float, nan}
use borrow.Author.Tests.{eqb-true, eqb-false}
use Rattle.order.specs.Order.{finite}
use Rattle.order.proofs.Booleans.{not-below, never, true-T}
use Rattle.order.proofs.Keys.{key}
use Rattle.order.proofs.Rows.{Sound, sound_row, sound-length, sound-finite}
use Rattle.columns.specs.Columns.{Columns, size, ◌∪◌, ◌∖◌}
use Rattle.columns.proofs.Sets.{has, ◌⊆◌, ⊆-at, ⊆-length, ⊆-trans, length-∖, some-column, empty-under}
use Rattle.columns.proofs.Remaining.{remains, remains-some, left-all, left-with, without-same, without-size, with-sub}
use Rattle.runs.specs.Stepdown.{step_critical}
use Rattle.runs.proofs.RejectedSets.{step_rejects, rejected_set_at, step_in, grown-by, Before, Ended, row-sound, at-keeps, at-ends}
use Rattle.runs.proofs.Loosening.{critical_at, critical_at-step, critical_at-falls, critical_at-end}
use Rattle.adjustment.specs.Passes.{top_column, needed}
use Rattle.adjustment.proofs.Needed.{needed-law, needed-most}
use Rattle.adjustment.proofs.TopColumn.{top_in, top-finite, top-most}

unfoldable pub figure_from : ℕ → ℕ → List (List Float) → Columns → List Float → Columns → ℕ → ℕ → ℕ
figure_from zero k X live row R m j = length X
figure_from (suc n) k X live row R m j =
    let i = top_column (live ∖ R) row in
    let figure = max m (needed k X live R (get_or row i nan)) in
    cond (eqb i j) figure (figure_from n k X live row (set R i true) figure j)

-- ---- figures are at most M, and the running maximum never falls

module _ (k : ℕ) (X : List (List Float)) (live : Columns) (row : List Float) where
  abbrev top : Columns → ℕ
  top R = top_column (live ∖ R) row

  abbrev pub figure_here : Columns → ℕ → ℕ
  figure_here R m = max m (needed k X live R (get_or row (top_column (live ∖ R) row) nan))

  here-bound : (R : Columns) (m : ℕ) → m ≤ length X → figure_here R m ≤ length X
  here-bound R m h = max-le h (needed-most k X live R (get_or row (top R) nan))

  pub figure_from-most : (n : ℕ) (R : Columns) (m j : ℕ) → m ≤ length X → figure_from n k X live row R m j ≤ length X
  unfolding figure_from
  figure_from-most zero R m j h = omega arith
  figure_from-most (suc n) R m j h = go (eqb (top R) j) (figure_from-most n (set R (top R) true) (figure_here R m) j (here-bound R m h))
    where
      go : (b : Bool) → figure_from n k X live row (set R (top R) true) (figure_here R m) j ≤ length X → cond b (figure_here R m) (figure_from n k X live row (set R (top R) true) (figure_here R m) j) ≤ length X
      go true q = here-bound R m h
      go false q = q

  maximum-stays : (n : ℕ) (R : Columns) (m j : ℕ) → m ≤ length X → m ≤ figure_from n k X live row R m j
  unfolding figure_from
  maximum-stays zero R m j h = h
  maximum-stays (suc n) R m j h = go (eqb (top R) j) (maximum-stays n (set R (top R) true) (figure_here R m) j (here-bound R m h))
    where
      go : (b : Bool) → figure_here R m ≤ figure_from n k X live row (set R (top R) true) (figure_here R m) j → m ≤ cond b (figure_here R m) (figure_from n k X live row (set R (top R) true) (figure_here R m) j)
      go true q = le-max_left m (needed k X live R (get_or row (top R) nan))
      go false q = omega (arith, le-max_left m (needed k X live R (get_or row (top R) nan)))

-- ---- the column that the pass comes to

module _ (live : Columns) (row : List Float) (sound : T (sound_row (length live) row)) (R : Columns) (inside : R ⊆ live) (some : 0 < size (live ∖ R)) where
  even : length (live ∖ R) ≡ length row
  even = length-∖ live R (sym (⊆-length inside)) ∙ sym (sound-length (length live) row sound)

  pub here : T (has (live ∖ R) (top_column (live ∖ R) row))
  here = top_in (live ∖ R) row even (sound-finite (length live) row sound) some

  here-finite : T (finite (get_or row (top_column (live ∖ R) row) nan))
  here-finite = top-finite (live ∖ R) row even (sound-finite (length live) row sound) some (top_column (live ∖ R) row) here

  here-most : (l : ℕ) → T (has (live ∖ R) l) → key (get_or row l nan) ≤ key (get_or row (top_column (live ∖ R) row) nan)
  here-most l t = top-most (live ∖ R) row even (sound-finite (length live) row sound) some l t

  here-live : T (has live (top_column (live ∖ R) row))
  here-live = ((remains live R (sym (⊆-length inside)) (top_column (live ∖ R) row)).0 here).0

  pub next-inside : set R (top_column (live ∖ R) row) true ⊆ live
  next-inside = with-sub (top_column (live ∖ R) row) inside here-live

  pub next-size : (n : ℕ) → size (live ∖ R) ≡ suc n → size (live ∖ set R (top_column (live ∖ R) row) true) ≡ n
  next-size n z = omega (arith, ap size (left-with live R (top_column (live ∖ R) row)), without-size (live ∖ R) (top_column (live ∖ R) row) here)

-- ---- the method at e

module _ (k e : ℕ) (X : List (List Float)) (live : Columns) (o : ℕ) (sound : Sound (length live) X) (seen : o < length X) (narrow : length live ≤ 32)
    (pos : 0 < k) (held : k ≤ size live) (rare : e < length X) where
  abbrev row : List Float
  row = get_or X o []

  abbrev Rf : Columns
  Rf = rejected_set_at k e X live o

  own : T (sound_row (length live) (get_or X o []))
  own = row-sound k e X live o sound seen

  end : Ended k e X live (get_or X o []) (rejected_set_at k e X live o)
  end = at-ends k e X live o sound seen pos narrow

  module _ (R : Columns) (inside : R ⊆ live) (some : 0 < size (live ∖ R)) where
    abbrev i : ℕ
    i = top_column (live ∖ R) row

    i-law : (key (get_or (get_or X o []) (top_column (live ∖ R) (get_or X o [])) nan) ≤ key (critical_at k e X live R)) ↔ (e < needed k X live R (get_or (get_or X o []) (top_column (live ∖ R) (get_or X o [])) nan))
    i-law = needed-law (length live) k e X (get_or row i nan) sound pos rare (here-finite live row own R inside some) live R

    -- where what is passed is rejected, so is a column that needs no more than e
    next-rejected : R ⊆ rejected_set_at k e X live o → needed k X live R (get_or (get_or X o []) (top_column (live ∖ R) (get_or X o [])) nan) ≤ e → T (has (rejected_set_at k e X live o) (top_column (live ∖ R) (get_or X o [])))
    next-rejected sub few = go (has Rf i) refl
      where
        t : T (has live i)
        t = here-live live row own R inside some

        go : (b : Bool) → has Rf i ≡ b → T (has Rf i)
        go true q = true-T (has Rf i) q
        go false q = absurd (let low : key (get_or row i nan) ≤ key (critical_at k e X live R) = omega (
          arith,
          critical_at-end k e X live Rf row end i t (never (has Rf i) q),
          critical_at-falls k e e X live sound pos held (omega arith) rare R Rf sub end.inside (remains-some live Rf (sym (⊆-length end.inside)) i t (never (has Rf i) q)),
        ) in omega (arith, i-law.0 low))

    -- where the next column needs more, nothing but what is passed is ever rejected
    none-further : e < needed k X live R (get_or (get_or X o []) (top_column (live ∖ R) (get_or X o [])) nan) → rejected_set_at k e X live o ⊆ R
    none-further many = at-keeps k e X live o sound seen (λ Q. Q ⊆ R) step (empty-under live R (sym (⊆-length inside)))
      where
        step : (Q : Columns) (s : ℕ) → Before k e X live (get_or X o []) Q s → Q ⊆ R → (Q ∪ step_rejects k e X live (get_or X o []) Q s) ⊆ R
        step Q s b sub = grown-by k e X live row sound own Q s (⊆-length b.inside) R (⊆-length inside) (⊆-at sub) (λ l t. go l (has R l) refl (step_in k e X live row sound own Q s (⊆-length b.inside) l t))
          where
            go : (l : ℕ) (c : Bool) → has R l ≡ c → (T (has live l) × (T (has Q l) → ⊥)) × (key (step_critical k e X live Q s) < key (get_or (get_or X o []) l nan)) → T (has R l)
            go l true q f = true-T (has R l) q
            go l false q f = absurd (omega (
              arith,
              f.1,
              ap key (critical_at-step k e X live Q row s pos b),
              critical_at-falls k e e X live sound pos held (omega arith) rare Q R sub inside some,
              here-most live row own R inside some l ((remains live R (sym (⊆-length inside)) l).1 (f.0.0, never (has R l) q)),
              i-law.1 many,
            ))

  down : (n : ℕ) (R : Columns) (m j : ℕ) → R ⊆ rejected_set_at k e X live o → size (live ∖ R) ≡ n → m ≤ length X → figure_from n k X live (get_or X o []) R m j ≤ e → T (has (rejected_set_at k e X live o) j)
  unfolding figure_from
  down zero R m j sub z h q = absurd (omega arith)
  down (suc n) R m j sub z h q =
      go (eqb i' j) refl (λ t. down n (set R i' true) (figure_here k X live row R m) j (with-sub i' sub t) (next-size live row own R inside some n z) (here-bound k X live row R m h)) q
    where
      some : 0 < size (live ∖ R)
      some = omega arith

      inside : R ⊆ live
      inside = ⊆-trans sub end.inside

      i' : ℕ
      i' = top_column (live ∖ R) (get_or X o [])

      reject : figure_here k X live row R m ≤ e → T (has Rf i')
      reject r = next-rejected R inside some sub (omega (arith, le-max_right m (needed k X live R (get_or row (top_column (live ∖ R) row) nan))))

      go : (b : Bool) → eqb i' j ≡ b → (T (has Rf i') → figure_from n k X live row (set R i' true) (figure_here k X live row R m) j ≤ e → T (has Rf j))
          → cond b (figure_here k X live row R m) (figure_from n k X live row (set R i' true) (figure_here k X live row R m) j) ≤ e → T (has Rf j)
      go true e' on r = subst (λ (l : ℕ). T (has Rf l)) (eqb-true i' j e') (reject r)
      go false e' on r = on (reject (omega (arith, maximum-stays k X live row n (set R i' true) (figure_here k X live row R m) j (here-bound k X live row R m h)))) r

  up : (n : ℕ) (R : Columns) (m j : ℕ) → R ⊆ live → size (live ∖ R) ≡ n → m ≤ e → T (has (live ∖ R) j) → e < figure_from n k X live (get_or X o []) R m j → T (has (rejected_set_at k e X live o) j) → ⊥
  unfolding figure_from
  up zero R m j inside z h t q = absurd (omega (arith, some-column (live ∖ R) j t))
  up (suc n) R m j inside z h t q =
      go (dec_le (needed k X live R (get_or row i' nan)) e) (eqb i' j) refl (up n (set R i' true) (figure_here k X live row R m) j (next-inside live row own R inside some) (next-size live row own R inside some n z)) q
    where
      some : 0 < size (live ∖ R)
      some = omega arith

      i' : ℕ
      i' = top_column (live ∖ R) (get_or X o [])

      outside : T (has R j) → ⊥
      outside = ((remains live R (sym (⊆-length inside)) j).0 t).1

      go : Dec (needed k X live R (get_or row i' nan) ≤ e) → (b : Bool) → eqb i' j ≡ b
          → (figure_here k X live row R m ≤ e → T (has (live ∖ set R i' true) j) → e < figure_from n k X live row (set R i' true) (figure_here k X live row R m) j → T (has Rf j) → ⊥)
          → e < cond b (figure_here k X live row R m) (figure_from n k X live row (set R i' true) (figure_here k X live row R m) j) → T (has Rf j) → ⊥
      go (yes r) true e' on q u = let few : figure_here k X live row R m ≤ e = max-le h r in omega arith
      go (yes r) false e' on q u = on (max-le h r) (subst (λ (b : Bool). T b) (sym (ap (λ (K : Columns). has K j) (left-with live R i') ∙ without-same (live ∖ R) i' j (eqb-false i' j e'))) t) q u
      go (no r) b e' on q u = outside (⊆-at (none-further R inside some (omega (arith, r))) j u)

  pub pass-law : (j : ℕ) → (figure_from (size live) k X live (get_or X o []) (map (λ _. false) live) 0 j ≤ e) ↔ T (has (rejected_set_at k e X live o) j)
  pass-law j = (
    λ q. down (size live) (map (λ _. false) live) 0 j (empty-under live Rf (sym (⊆-length end.inside))) (ap size (left-all live)) (omega arith) q,
    λ t. not-below e (figure_from (size live) k X live row (map (λ _. false) live) 0 j) (λ q. up (size live) (map (λ _. false) live) 0 j (empty-under live live refl) (ap size (left-all live)) (omega arith)
        (subst (λ (K : Columns). T (has K j)) (sym (left-all live)) (⊆-at end.inside j t)) q t),
  )
