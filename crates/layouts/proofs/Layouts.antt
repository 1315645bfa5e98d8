-- Laws of the layout of a file.
--   count_most, words-most, length_most, length-is     how far an accepted shape goes: to the longest file
--   layout-made, Stands, stands     a layout as the code makes it; where its parts stand, as numbers
--   place-cases            a place of a file is that of the level, the shape, an offer, a figure or the end
use Prim.Native.Nat.{ℕ, ◌+◌, ◌-◌, ◌*◌, ◌≤◌, ◌<◌}
use native.Mathlib.Omega.{arith}
use native.Mathlib.Nat.{mul-le-mul}
use native.Mathlib.Decide.{dec_lt}
use mathlib.Core.Path.{◌≡◌, sym, ap, subst}
use Rattle.limits.specs.Limits.{offers_most, units_most, figures_most, longest_file}
use Rattle.trial.specs.Designs.{units_of}
use Rattle.trial.specs.Record.{figure_count}
use Rattle.trial.specs.declared.Shape.{Shape}
use Rattle.layouts.specs.Layouts.{level_at, shape_at, layout_of, offer_at, figure_at, word_total}
use Rattle.layouts.specs.declared.Layout.{Layout}

-- an accepted shape
module _ (s : Shape) (offers : s.offers ≤ offers_most) (units : units_of s.design ≤ units_most) where
  pub count_most : figure_count s ≤ figures_most
  unfolding figure_count
  count_most = mul-le-mul offers units

  pub words-most : 4 * word_total s ≤ longest_file
  unfolding layout_of
  words-most = omega (arith, count_most)

pub layout-made : (s : Shape) (u : ℕ) → u ≡ units_of s.design → record { offers = 2; figures = 2 + s.offers * 1; end = 2 + s.offers * 1 + s.offers * u } ≡ layout_of s
unfolding layout_of figure_count
layout-made s u e = ap (λ (n : ℕ). record { offers = 2; figures = 2 + s.offers * 1; end = 2 + s.offers * 1 + s.offers * n }) e

pub length_most : (s : Shape) (l : Layout) → l ≡ layout_of s → s.offers ≤ offers_most → units_of s.design ≤ units_most → 4 * (l.end + 1) ≤ longest_file
length_most s l e h k = subst (λ (x : Layout). 4 * (x.end + 1) ≤ longest_file) (sym e) (words-most s h k)

pub length-is : (s : Shape) (l : Layout) → l ≡ layout_of s → 4 * (l.end + 1) ≡ 4 * word_total s
length-is s l e = ap (λ (x : Layout). 4 * (x.end + 1)) e

-- where the parts stand, as numbers
pub record Stands (s : Shape) (l : Layout) : Type 0 where
  pub offers-at : l.offers ≡ 2
  pub figures-at : l.figures ≡ 2 + s.offers
  pub end-at : l.end ≡ 2 + s.offers + figure_count s

pub stands : (s : Shape) (l : Layout) → l ≡ layout_of s → Stands s l
unfolding layout_of
stands s l e = subst (Stands s) (sym e) (record { offers-at = omega arith; figures-at = omega arith; end-at = omega arith })

module _ (s : Shape) (P : ℕ → Type 0) (level : P level_at) (shape : P shape_at) (offer : (i : ℕ) → i < s.offers → P (offer_at (layout_of s) i))
    (figure : (i : ℕ) → i < figure_count s → P (figure_at (layout_of s) i)) (end : P (layout_of s).end) where
  pub place-cases : (i : ℕ) → i < word_total s → P i
  unfolding layout_of
  place-cases i h = first (dec_lt i 1)
    where
      last : (i < 2 + s.offers + figure_count s → ⊥) → P i
      last q = let e : (layout_of s).end ≡ i = omega (arith, q) in subst P e end

      in-figures : (i < 2 + s.offers → ⊥) → Dec (i < 2 + s.offers + figure_count s) → P i
      in-figures q (yes k) = let e : figure_at (layout_of s) (i - (2 + s.offers)) ≡ i = omega (arith, q) in subst P e (figure (i - (2 + s.offers)) (omega (arith, q)))
      in-figures q (no k) = last k

      in-offers : (i < 2 → ⊥) → Dec (i < 2 + s.offers) → P i
      in-offers q (yes k) = let e : offer_at (layout_of s) (i - 2) ≡ i = omega (arith, q) in subst P e (offer (i - 2) (omega (arith, q)))
      in-offers q (no k) = in-figures k (dec_lt i (2 + s.offers + figure_count s))

      second : (i < 1 → ⊥) → Dec (i < 2) → P i
      second q (yes k) = let e : shape_at ≡ i = omega (arith, q) in subst P e shape
      second q (no k) = in-offers k (dec_lt i (2 + s.offers))

      first : Dec (i < 1) → P i
      first (yes k) = let e : level_at ≡ i = omega arith in subst P e level
      first (no k) = second k (dec_lt i 2)
