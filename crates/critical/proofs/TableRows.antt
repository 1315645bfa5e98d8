-- The rows of a checked table as parts of it, and their k-max values in the work buffer.
--   row-ready, row-value, row-turn, rows_end     what row g's k-max asks for; it, in its place; all rows
--   front-is, back_is, front-rank, quantile-is     all rows' k-max values, and their quantile
use Prim.Native.Nat.{ℕ, ◌+◌, ◌-◌, ◌≤◌, ◌<◌}
use native.Mathlib.Omega.{arith}
use mathlib.Core.Path.{◌≡◌, sym, ap, ap₂, ◌∙◌, subst}
use mathlib.Core.List.{List, [], map}
use lib.ListN.{length, get_or, take, drop, set, length-map}
use lib.Seq.{take_at, drop_at}
use lib.Dec.{T, ltb}
use lib.Ieee.{Float, nan}
use Rattle.order.specs.Order.{finite}
use Rattle.order.specs.Counting.{all}
use Rattle.order.specs.Lists.{rows_of}
use Rattle.order.proofs.Rows.{Finite, rows_of-sound}
use Rattle.order.proofs.Lists.{rows_of-length}
use Rattle.refusals.specs.Buffers.{written}
use Rattle.refusals.proofs.Buffers.{filled, filled-turn, filled-end}
use Rattle.select.specs.Rank.{kth_largest, mth_smallest}
use Rattle.columns.specs.Columns.{size, within, columns_of}
use Rattle.columns.proofs.Masks.{columns_of-length}
use Rattle.method.specs.Method.{k_max, critical_value}
use Rattle.method.proofs.Critical.{tops, tops-finite}
use Rattle.masks.specs.Internal.{CheckedTable}
use Rattle.masks.proofs.Parts.{row-length, row-finite}
use Rattle.critical.specs.Internal.{members_from}
use Rattle.critical.proofs.Members.{members-within, members-length, members-below}

-- ---- one row of the table

-- its k-max over the listed columns of a set
module _ (t : List Float) (rows cols k set : ℕ) (list : List ℕ) (r : CheckedTable t rows cols k) (listed : list ≡ members_from 0 (columns_of cols set)) (g : ℕ) (h : g < rows)
    (part : List Float) (own : part ≡ get_or (rows_of rows cols t) g []) where
  pub row-value : {v : Float} → v ≡ kth_largest k (map (λ j. get_or part j nan) list) → v ≡ k_max k (columns_of cols set) (get_or (rows_of rows cols t) g [])
  unfolding k_max
  row-value e =
      e ∙ ap (λ (l : List ℕ). kth_largest k (map (λ j. get_or part j nan) l)) listed
      ∙ ap (kth_largest k) (members-within part 0 (columns_of cols set) (omega (arith, columns_of-length cols set, row-length t rows cols k g r h part own)) ∙ ap (within (columns_of cols set)) (own))

  pub row-ready : k ≤ size (columns_of cols set)
      → T (all finite part) × T (all (λ j. ltb j (length part)) list) × (0 < k) × (k ≤ 4) × (k ≤ length list)
  row-ready wide = (
    row-finite t rows cols k g r h part own,
    subst (λ (l : List ℕ). T (all (λ j. ltb j (length part)) l)) (sym listed) (members-below (length part) 0 (columns_of cols set) (omega (arith, columns_of-length cols set, row-length t rows cols k g r h part own))),
    r.k-some,
    r.k-most,
    omega (arith, wide, ap length listed, members-length 0 (columns_of cols set)),
  )

  pub row-turn : (w w₀ : List Float) {v : Float} → rows ≤ length w₀ → w ≡ filled (λ row. k_max k (columns_of cols set) row) (rows_of rows cols t) g w₀
      → v ≡ kth_largest k (map (λ j. get_or part j nan) list)
      → lib.ListN.set w g v ≡ filled (λ row. k_max k (columns_of cols set) row) (rows_of rows cols t) (g + 1) w₀
  row-turn w w₀ {v} l p e =
      filled-turn (λ row. k_max k (columns_of cols set) row) (rows_of rows cols t) w₀ [] g w v nan (omega (arith, rows_of-length rows cols t)) (omega arith) p (row-value e)

pub rows_end : (t : List Float) (rows cols k set g : ℕ) (w w₀ : List Float) → rows ≤ g → g ≤ rows → w ≡ filled (λ row. k_max k (columns_of cols set) row) (rows_of rows cols t) g w₀
    → w ≡ written (map (λ row. k_max k (columns_of cols set) row) (rows_of rows cols t)) w₀
rows_end t rows cols k set g w w₀ h l p =
    filled-end (λ row. k_max k (columns_of cols set) row) (rows_of rows cols t) w₀ [] g w (omega (arith, rows_of-length rows cols t)) (omega (arith, rows_of-length rows cols t)) p

-- ---- the quantile

module _ (t : List Float) (rows cols k e set : ℕ) (r : CheckedTable t rows cols k) (few : e < rows) (w w₀ : List Float)
    (p : w ≡ written (map (λ row. k_max k (columns_of cols set) row) (rows_of rows cols t)) w₀) where
  X-length : length (map (λ row. k_max k (columns_of cols set) row) (rows_of rows cols t)) ≡ rows
  X-length = length-map (rows_of rows cols t) (λ row. k_max k (columns_of cols set) row) ∙ rows_of-length rows cols t

  pub front-is : take rows w ≡ tops k (rows_of rows cols t) (columns_of cols set)
  front-is = ap (take rows) p ∙ take_at (tops k (rows_of rows cols t) (columns_of cols set)) (drop (length (tops k (rows_of rows cols t) (columns_of cols set))) w₀) rows X-length

  pub back_is : drop rows w ≡ drop rows w₀
  back_is = ap (drop rows) p ∙ drop_at (tops k (rows_of rows cols t) (columns_of cols set)) (drop (length (tops k (rows_of rows cols t) (columns_of cols set))) w₀) rows X-length ∙ ap (λ (n : ℕ). drop n w₀) X-length

  pub front-finite : Finite (take rows w)
  front-finite = rw front-is (tops-finite cols k (rows_of rows cols t) (columns_of cols set) (rows_of-sound rows cols t r.full r.finitely))

  pub front_length : length (take rows w) ≡ rows
  front_length = ap length front-is ∙ X-length

  pub quantile-is : {x : Float} → x ≡ mth_smallest (rows - e) (take rows w) → x ≡ critical_value k e (rows_of rows cols t) (columns_of cols set)
  unfolding critical_value
  quantile-is q = q ∙ ap₂ (λ (n : ℕ) (l : List Float). mth_smallest (n - e) l) (sym (rows_of-length rows cols t)) front-is

  pub front-rank : T (all finite (take rows w)) × (0 < rows - e) × (rows - e ≤ length (take rows w))
  front-rank = (front-finite, omega arith, omega (arith, front_length))
