-- The rows of a checked table as parts of it.
--   part-fits         row g ends within the table
--   part_length, part-finite, part-row     the part from g * cols on is row g, of cols finite values
--   mask_fits         a set of at most 32 columns fits a u32
--   row-length, row-finite, row-narrow     the same of a list that is row g, which has at most 32 values
--   any-k             the same table with k = 1
use Prim.Native.Nat.{ℕ, ◌+◌, ◌-◌, ◌*◌, ◌^◌, ◌≤◌, ◌<◌}
use native.Mathlib.Omega.{arith}
use native.Mathlib.Nat.{add-sub_cancel_left}
use mathlib.Core.Path.{◌≡◌, sym, ap, ◌∙◌}
use mathlib.Core.List.{List, []}
use lib.ListN.{length, get_or, take, drop, length-take, length-drop}
use lib.Pow.{pow_mono}
use lib.Ieee.{Float}
use Rattle.order.specs.Order.{finite}
use Rattle.order.specs.Lists.{rows_of}
use Rattle.order.proofs.Rows.{Finite}
use Rattle.order.proofs.Lists.{part-rows, all_take, all_drop, rows_of-row}
use Rattle.masks.specs.Internal.{CheckedTable}

pub part-fits : (t : List Float) (rows cols g : ℕ) → length t ≡ rows * cols → g < rows → g * cols + cols ≤ length t
part-fits t rows cols g e h = omega (arith, part-rows rows cols g h)

module _ (t : List Float) (rows cols k g : ℕ) (r : CheckedTable t rows cols k) (h : g < rows) where
  pub part_length : length (take (g * cols + cols - g * cols) (drop (g * cols) t)) ≡ cols
  part_length = simp (length-take, length-drop) (omega (arith, part-fits t rows cols g r.full h))

  pub part-finite : Finite (take (g * cols + cols - g * cols) (drop (g * cols) t))
  part-finite = all_take finite (g * cols + cols - g * cols) (drop (g * cols) t) (all_drop finite (g * cols) t r.finitely)

  pub part-row : take (g * cols + cols - g * cols) (drop (g * cols) t) ≡ get_or (rows_of rows cols t) g []
  part-row = ap (λ (n : ℕ). take n (drop (g * cols) t)) (add-sub_cancel_left (g * cols) cols) ∙ sym (rows_of-row rows cols t g h)

module _ (t : List Float) (rows cols k g : ℕ) (r : CheckedTable t rows cols k) (h : g < rows) (row : List Float) (e : row ≡ get_or (rows_of rows cols t) g []) where
  pub row-length : length row ≡ cols
  row-length = rw (e, ← part-row t rows cols k g r h) (part_length t rows cols k g r h)

  pub row-finite : Finite row
  row-finite = rw (e, ← part-row t rows cols k g r h) (part-finite t rows cols k g r h)

  pub row-narrow : length row ≤ 32
  row-narrow = omega (arith, row-length, r.cols-most)

-- the same table with k = 1
pub any-k : {t : List Float} {rows cols k : ℕ} → CheckedTable t rows cols k → CheckedTable t rows cols 1
any-k r = record { rows-most = r.rows-most; cols-most = r.cols-most; full = r.full; finitely = r.finitely; k-some = omega arith; k-most = omega arith }

pub mask_fits : {n s : ℕ} → n ≤ 32 → s < 2 ^ n → s < 2 ^ 32
mask_fits h l = let p = pow_mono h in omega (arith, p)
