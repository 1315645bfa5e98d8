-- A sample of the rows' k-max values.
--   Sampled, sampled-start, sampled-turn     what holds as the values are filled in
--   value-finite, quantile-low     a k-max value is finite, and so is a quantile of them
use Prim.Native.Nat.{ℕ, ◌+◌, ◌≤◌, ◌<◌}
use native.Mathlib.Omega.{arith}
use native.Mathlib.Numerals.{add-one}
use mathlib.Core.Path.{◌≡◌, refl, sym, ap, ◌∙◌, subst}
use mathlib.Core.List.{List, [], ◌∷◌, map}
use lib.ListN.{length, get_or, take, drop, set, length-set}
use lib.Seq.{take-suc-set, drop-set-lt}
use lib.Dec.{T, ltb}
use lib.Ieee.{Float, nan}
use Rattle.order.specs.Order.{finite, low}
use Rattle.order.specs.Counting.{all}
use Rattle.order.proofs.Booleans.{and_both}
use Rattle.order.proofs.Counts.{all_append}
use Rattle.order.proofs.Infinities.{finite-low}
use Rattle.order.proofs.Keys.{zero-finite}
use Rattle.select.specs.Rank.{kth_largest, mth_smallest}
use Rattle.select.proofs.Ranks.{kth_largest-keeps, mth_smallest-keeps}
use Rattle.critical.proofs.Members.{listed-finite}

pub record Sampled (rows : ℕ) (work₀ work : List Float) (n g : ℕ) : Type 0 where
  pub few : n ≤ g
  pub less : n ≤ rows
  pub as_long : length work ≡ length work₀
  pub back : drop rows work ≡ drop rows work₀
  pub finitely : T (all finite (take n work))

pub sampled-start : (rows : ℕ) (work : List Float) → Sampled rows work work 0 0
unfolding all
sampled-start rows work = record { few = omega arith; less = omega arith; as_long = refl; back = refl; finitely = tt }

pub sampled-turn : {rows : ℕ} {work₀ work : List Float} {n g : ℕ} (x : Float) → Sampled rows work₀ work n g → g < rows → rows ≤ length work₀ → T (finite x) → Sampled rows work₀ (set work n x) (n + 1) (g + 16)
unfolding all
sampled-turn {rows} {work₀} {work} {n} {g} x w h l f = record {
  few = omega (arith, w.few);
  less = omega (arith, w.few);
  as_long = length-set work n x ∙ w.as_long;
  back = drop-set-lt rows work n x (omega (arith, w.few)) ∙ w.back;
  finitely = subst (λ (xs : List Float). T (all finite xs)) (sym (ap (λ (j : ℕ). take j (set work n x)) (add-one n) ∙ take-suc-set work n x (omega (arith, w.few, w.as_long)))) (all_append finite (take n work) (x ∷ []) w.finitely (and_both (finite x) (all finite []) f tt));
}

pub value-finite : (k : ℕ) (row : List Float) (list : List ℕ) {x : Float} → T (all finite row) → T (all (λ j. ltb j (length row)) list) → x ≡ kth_largest k (map (λ j. get_or row j nan) list) → T (finite x)
value-finite k row list f s e = subst (λ (y : Float). T (finite y)) (sym e) (kth_largest-keeps finite zero-finite k (map (λ j. get_or row j nan) list) (listed-finite row list f s))

pub quantile-low : (m : ℕ) (xs : List Float) {x : Float} → T (all finite xs) → x ≡ mth_smallest m xs → T (low x)
quantile-low m xs f e = subst (λ (y : Float). T (low y)) (sym e) (finite-low (mth_smallest m xs) (mth_smallest-keeps finite zero-finite m xs f))
