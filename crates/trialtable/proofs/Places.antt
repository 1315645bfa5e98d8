-- Laws of the places of a table and of a buffer.
--   table_for-length, -place         place g * offers + i of a table is the entry of offer i in row g
--   begun-..                         a buffer that holds a list's first places: one more of them, all, and what is in a held place
use Prim.Native.Nat.{ℕ, zero, suc, ◌+◌, ◌-◌, ◌*◌, ◌≤◌, ◌<◌}
use native.Mathlib.Numerals.{add-one}
use native.Mathlib.Omega.{arith}
use native.Mathlib.Nat.{zero-mul, suc-mul}
use mathlib.Core.Path.{◌≡◌, refl, sym, ap, ◌∙◌, subst}
use mathlib.Core.List.{List, [], ◌∷◌, ◌++◌, map}
use lib.ListN.{length, get_or, take, drop, set, length-map, get_or-append}
use lib.Seq.{drop-drop, take-length, length-take-le, drop-append-add, get_or-append-add, get_or-take}
use lib.Dec.{T, eqb, eqb→eq, eqb_refl}
use lib.IntN.{ℤ}
use lib.Ieee.{Float, nan, binary64, of_int}
use Rattle.order.specs.Counting.{all}
use Rattle.order.specs.Lists.{tabulate, rows_of, joined}
use Rattle.order.proofs.Booleans.{and_left, and_right}
use Rattle.order.proofs.Lists.{tabulate-length, tabulate-get_d, all-tabulate, rows_of-length, rows_of-row, joined_length, get_d_map}
use Rattle.refusals.specs.Buffers.{written}
use Rattle.trial.specs.Designs.{units_of, row_count, entry_of}
use Rattle.trial.specs.declared.Design.{Design}
use Rattle.trialtable.specs.Internal.{table_for, begun}

-- ---- joined rows, place by place

-- place g * n + i of joined rows of n members each is member i of row g
joined-place : {A : Type 0} (n : ℕ) (rs : List (List A)) (g i : ℕ) (d : A) → T (all (λ r. eqb (length r) n) rs) → i < n → g < length rs → get_or (joined rs) (g * n + i) d ≡ get_or (get_or rs g []) i d
unfolding joined all
joined-place n [] g i d h k j = absurd (omega arith)
joined-place n (r ∷ rs) zero i d h k j =
    let l : length r ≡ n = eqb→eq (length r) n (and_left (eqb (length r) n) (all (λ r. eqb (length r) n) rs) h) in
    let z : 0 * n + i ≡ i = omega (arith, zero-mul n) in
    ap (λ (p : ℕ). get_or (r ++ joined rs) p d) z ∙ get_or-append r (joined rs) d i (omega arith)
joined-place n (r ∷ rs) (suc g) i d h k j =
    let l : length r ≡ n = eqb→eq (length r) n (and_left (eqb (length r) n) (all (λ r. eqb (length r) n) rs) h) in
    let z : suc g * n + i ≡ length r + (g * n + i) = omega (arith, suc-mul g n) in
    ap (λ (p : ℕ). get_or (r ++ joined rs) p d) z ∙ get_or-append-add r (joined rs) (g * n + i) d ∙ joined-place n rs g i d (and_right (eqb (length r) n) (all (λ r. eqb (length r) n) rs) h) k (omega arith)

-- ---- a table, place by place

module _ (d : Design) (offers : ℕ) (xs : List ℤ) where
  abbrev n : ℕ
  n = units_of d

  table_row : ℕ → List Float
  unfolding rows_of entry_of of_int
  table_row g = map (λ ys. of_int binary64 (entry_of d g ys)) (rows_of offers n xs)

  row-length : (g : ℕ) → length (table_row g) ≡ offers
  unfolding table_row
  row-length g = length-map (rows_of offers n xs) (λ ys. of_int binary64 (entry_of d g ys)) ∙ rows_of-length offers n xs

  rows-even : T (all (λ r. eqb (length r) offers) (tabulate (row_count d) table_row))
  rows-even = all-tabulate (λ r. eqb (length r) offers) (row_count d) table_row (λ g. subst (λ (m : ℕ). T (eqb m offers)) (sym (row-length g)) (eqb_refl offers))

  pub table_for-length : length (table_for d offers xs) ≡ row_count d * offers
  unfolding table_for table_row
  table_for-length = joined_length offers (tabulate (row_count d) table_row) rows-even ∙ ap (λ (m : ℕ). m * offers) (tabulate-length (row_count d) table_row)

  pub table_for-place : (g i : ℕ) → g < row_count d → i < offers → get_or (table_for d offers xs) (g * offers + i) nan ≡ of_int binary64 (entry_of d g (take n (drop (i * n) xs)))
  unfolding table_for table_row
  table_for-place g i h k =
      let m = tabulate-length (row_count d) table_row in
      let l = rows_of-length offers n xs in
      joined-place offers (tabulate (row_count d) table_row) g i nan rows-even k (omega arith)
      ∙ ap (λ (r : List Float). get_or r i nan) (tabulate-get_d (row_count d) table_row g [] h)
      ∙ get_d_map (λ ys. of_int binary64 (entry_of d g ys)) (rows_of offers n xs) i [] nan (omega arith)
      ∙ ap (λ (ys : List ℤ). of_int binary64 (entry_of d g ys)) (rows_of-row offers n xs i k)

-- ---- a buffer, filled from its first place on

begun-suc : {A : Type 0} (n : ℕ) (x : A) (xs buf : List A) → n < length xs → n < length buf → set (begun n xs buf) n (get_or xs n x) ≡ begun (suc n) xs buf
begun-suc n x [] buf h k = absurd (omega arith)
begun-suc n x (y ∷ xs) [] h k = absurd (omega arith)
begun-suc zero x (y ∷ xs) (z ∷ buf) h k = refl
begun-suc (suc n) x (y ∷ xs) (z ∷ buf) h k = ap (λ (l : List _). y ∷ l) (begun-suc n x xs buf (omega arith) (omega arith))

module _ {A : Type 0} (xs buf : List A) where
  pub begun_more : (p : ℕ) (x v : A) (out : List A) → p < length xs → p < length buf → out ≡ begun p xs buf → v ≡ get_or xs p x → set out p v ≡ begun (p + 1) xs buf
  begun_more p x v out h k e f = rw (e, f, add-one) (begun-suc p x xs buf h k)

  pub begun_all : (p : ℕ) → p ≡ length xs → begun p xs buf ≡ written xs buf
  begun_all p e = ap (λ (n : ℕ). begun n xs buf) e ∙ ap (λ (l : List A). l ++ drop (length xs) buf) (take-length xs)

  -- of a buffer that holds fewer of them already
  pub begun-again : (p q : ℕ) → p ≤ q → p ≤ length xs → begun q xs (begun p xs buf) ≡ begun q xs buf
  begun-again p q h k = ap (λ (l : List A). take q xs ++ l) rest
    where
      m : length (take p xs) + (q - p) ≡ q
      m = omega (arith, length-take-le p xs k)

      n : p + (q - p) ≡ q
      n = omega arith

      rest : drop q (begun p xs buf) ≡ drop q buf
      rest = ap (λ (i : ℕ). drop i (begun p xs buf)) (sym m) ∙ drop-append-add (take p xs) (drop p buf) (q - p) ∙ drop-drop (q - p) p buf ∙ ap (λ (i : ℕ). drop i buf) n

-- a place that the buffer holds already
pub begun-at : {A : Type 0} (xs buf : List A) (p i : ℕ) (d : A) → i < p → p ≤ length xs → get_or (begun p xs buf) i d ≡ get_or xs i d
begun-at xs buf p i d h k = get_or-append (take p xs) (drop p buf) d i (omega (arith, length-take-le p xs k)) ∙ get_or-take p xs i d h
