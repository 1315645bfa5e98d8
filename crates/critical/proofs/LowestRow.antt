-- The lowest row that has a value.
--   no-k-max                   where no value of a row equals v, its k-max over listed columns does not
--   FromRow, rows_start, rows-hit, rows_on, rows_out     a search over the rows
--   one_found                  with k = 1, which is written out
--   found-is                   the same among the k-max values of all rows, in the work buffer
use Prim.Native.Nat.{ℕ, ◌+◌, ◌-◌, ◌≤◌, ◌<◌}
use native.Mathlib.Omega.{arith}
use mathlib.Core.Path.{◌≡◌, refl, sym, ap, ap₂, ◌∙◌, subst}
use mathlib.Core.Bool.{Bool, true, false, not}
use mathlib.Core.List.{List, [], map}
use lib.ListN.{length, get_or, take, drop, length-map}
use lib.Dec.{T, ltb, ltb→lt}
use lib.Ieee.{Float, nan}
use borrow.Author.Tests.{ltb-false}
use Rattle.order.specs.Order.{finite, equal, with_plus_zero}
use Rattle.order.specs.Counting.{count, all}
use Rattle.order.specs.Lists.{rows_of, first_at}
use Rattle.order.proofs.Booleans.{not_T}
use Rattle.order.proofs.Counts.{none-counted, all-le, all_map, all_get_d}
use Rattle.order.proofs.Firsts.{first-map, first-hit, first_on, first_out}
use Rattle.order.proofs.Rows.{none_equal}
use Rattle.order.proofs.Lists.{rows_of-length}
use Rattle.select.specs.Rank.{kth_largest, mth_smallest}
use Rattle.select.proofs.Ranks.{kth_largest-holds}
use Rattle.columns.specs.Columns.{columns_of}
use Rattle.method.specs.Method.{k_max}
use Rattle.method.specs.Bars.{bar_row}
use Rattle.masks.specs.Internal.{CheckedTable}
use Rattle.refusals.specs.Buffers.{written}
use Rattle.critical.specs.Internal.{members_from, found_of}
use Rattle.critical.specs.declared.quantile.Found.{Found}
use Rattle.critical.proofs.Members.{listed-finite}
use Rattle.critical.proofs.TableRows.{row-value, front-is, quantile-is}

pub no-k-max : (row : List Float) (list : List ℕ) (k : ℕ) (v : Float) → T (finite v) → T (all finite row) → T (all (λ j. ltb j (length row)) list) → 0 < k → k ≤ length list
    → ltb 0 (count (λ x. equal v x) row) ≡ false → false ≡ equal v (kth_largest k (map (λ j. get_or row j nan) list))
no-k-max row list k v f fs listed pos few none =
    sym (not_T (equal v (kth_largest k xs)) (kth_largest-holds k xs (listed-finite row list fs listed) pos (omega (arith, length-map list (λ j. get_or row j nan))) (λ x. not (equal v x)) others))
  where
    xs : List Float
    xs = map (λ j. get_or row j nan) list

    apart : T (all (λ x. not (equal v (with_plus_zero x))) row)
    apart = none_equal (λ x. x) finite row v f fs (λ x t. t) (none-counted (λ x. equal v x) row (let h = ltb-false 0 (count (λ x. equal v x) row) none in omega (arith, h)))

    others : T (all (λ x. not (equal v (with_plus_zero x))) (map (λ j. get_or row j nan) list))
    others = subst (λ (b : Bool). T b) (sym (all_map (λ j. get_or row j nan) (λ x. not (equal v (with_plus_zero x))) list))
        (all-le (λ j. ltb j (length row)) (λ j. not (equal v (with_plus_zero (get_or row j nan)))) list (λ j t. all_get_d (λ x. not (equal v (with_plus_zero x))) row j nan (ltb→lt j (length row) t) apart) listed)

-- ---- from row to row

module _ (t : List Float) (rows cols k set : ℕ) (v : Float) where
  -- the lowest row that has v is the one from row g on
  abbrev pub FromRow : ℕ → Type 0
  FromRow g = bar_row k (rows_of rows cols t) (columns_of cols set) v ≡ g + first_at (λ row. equal v (k_max k (columns_of cols set) row)) (drop g (rows_of rows cols t))

  pub rows_start : FromRow 0
  unfolding bar_row
  rows_start = omega arith

  pub rows_out : (g : ℕ) → rows ≤ g → g ≤ rows → FromRow g → rows ≡ bar_row k (rows_of rows cols t) (columns_of cols set) v
  unfolding bar_row
  rows_out g h l q = let z : rows ≡ g = omega arith in z ∙ first_out (λ row. equal v (k_max k (columns_of cols set) row)) (rows_of rows cols t) [] g (omega (arith, rows_of-length rows cols t)) (omega (arith, rows_of-length rows cols t)) q

  module _ (list : List ℕ) (r : CheckedTable t rows cols k) (listed : list ≡ members_from 0 (columns_of cols set)) (g : ℕ) (h : g < rows)
      (part : List Float) (own : part ≡ get_or (rows_of rows cols t) g []) where
    -- what `has_k_max` answers for row g
    abbrev pub row_has : Bool
    row_has = equal v (kth_largest k (map (λ j. get_or part j nan) list))

    row-test : {b : Bool} → b ≡ row_has → (c : Bool) → b ≡ c → equal v (k_max k (columns_of cols set) (get_or (rows_of rows cols t) g [])) ≡ c
    row-test e c q = ap (equal v) (sym (row-value t rows cols k set list r listed g h part own refl)) ∙ sym e ∙ q

    tall : g < length (rows_of rows cols t)
    tall = omega (arith, rows_of-length rows cols t)

    pub rows-hit : {b : Bool} → b ≡ row_has → b ≡ true → FromRow g → g ≡ bar_row k (rows_of rows cols t) (columns_of cols set) v
    unfolding bar_row
    rows-hit e q l = first-hit (λ row. equal v (k_max k (columns_of cols set) row)) (rows_of rows cols t) [] g tall (row-test e true q) l

    pub rows_on : {b : Bool} → b ≡ row_has → b ≡ false → FromRow g → FromRow (g + 1)
    unfolding bar_row
    rows_on e q l = first_on (λ row. equal v (k_max k (columns_of cols set) row)) (rows_of rows cols t) [] g tall (row-test e false q) l

-- ---- among the k-max values of all rows

-- with k = 1, which is written out
pub one_found : (X : List (List Float)) (k e cols set : ℕ) (c : Found) → k ≡ 1 → c ≡ found_of 1 e X (columns_of cols set) → c ≡ found_of k e X (columns_of cols set)
one_found X k e cols set c one q = q ∙ ap (λ (m : ℕ). found_of m e X (columns_of cols set)) (sym one)

module _ (t : List Float) (rows cols k e set : ℕ) (r : CheckedTable t rows cols k) (few : e < rows) (w w₀ : List Float)
    (p : w ≡ written (map (λ row. k_max k (columns_of cols set) row) (rows_of rows cols t)) w₀) where
  pub found-is : (c : Float) (g : ℕ) → c ≡ mth_smallest (rows - e) (take rows w) → g ≡ first_at (λ x. equal c x) (take rows w) → record { value = c; row = g } ≡ found_of k e (rows_of rows cols t) (columns_of cols set)
  unfolding found_of bar_row
  found-is c g q l =
      let v = quantile-is t rows cols k e set r few w w₀ p q in
      ap₂ (λ (x : Float) (n : ℕ). record { value = x; row = n }) v
      (l ∙ ap (first_at (λ x. equal c x)) (front-is t rows cols k e set r few w w₀ p) ∙ first-map (λ row. k_max k (columns_of cols set) row) (λ x. equal c x) (rows_of rows cols t) ∙ ap (λ (x : Float). first_at (λ row. equal x (k_max k (columns_of cols set) row)) (rows_of rows cols t)) v)
