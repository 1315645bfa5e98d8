-- Why ranking column by column makes the balanced table.
--   finite_number                 a finite value is a number
--   inside                        entry j of row h stands in the table; sized: the table's length
--   Ranked, ranked-..             a table, ranked in its first j columns; in all of them it is the balanced one
use Prim.Native.Nat.{ℕ, zero, suc, ◌+◌, ◌*◌, ◌/◌, ◌%◌, ◌≤◌, ◌<◌}
use native.Mathlib.Omega.{arith}
use native.Mathlib.Decide.{ℕ_discrete}
use native.Mathlib.Nat.{mod-lt, div-add-mod', div-lt_iff_lt-mul}
use mathlib.Core.Path.{◌≡◌, refl, sym, ap, subst, ◌∙◌}
use mathlib.Core.Bool.{Bool, true, false, not, cond}
use mathlib.Core.List.{List, [], ◌∷◌}
use lib.ListN.{length, get_or}
use lib.Seq.{ext_get_or}
use lib.Dec.{T, leb, ltb, eqb}
use lib.Arith.{digits_lt, digits_mod}
use lib.IntN.{pos}
use lib.Ieee.{Float, nan, inf, fin, is_nan}
use borrow.Author.Tests.{lt-ltb, le-ltb, eq-eqb, ne_eqb}
use Rattle.order.specs.Order.{finite, at_most, with_plus_zero}
use Rattle.order.specs.Counting.{count, count_below, all}
use Rattle.order.specs.Lists.{tabulate, rows_of}
use Rattle.order.specs.Places.{place}
use Rattle.order.proofs.Booleans.{iff-ltb, leb-not, and_both}
use Rattle.order.proofs.Counts.{count_below-same, count_below-list, all_get_d}
use Rattle.order.proofs.Keys.{key, at_most-key}
use Rattle.order.proofs.Lists.{tabulate-length, tabulate-get_d, tabulate-same, rows_of-length, row-entry}
use Rattle.order.proofs.Places.{place-rises}
use Rattle.order.proofs.Whole.{whole-finite}
use Rattle.balance.specs.Balance.{rank, whole, balanced_table}
use Rattle.balance.proofs.Balanced.{rank_most, balanced_table-length, balanced_table-entry}
use Rattle.ranking.specs.Internal.{places_in, ranked_by, Put, Rankable}

pub finite_number : (x : Float) → T (finite x) → {y : Float} → y ≡ with_plus_zero x → T (not (is_nan y))
unfolding finite with_plus_zero is_nan
finite_number nan f e = absurd f
finite_number (inf s) f e = absurd f
finite_number (fin s zero k) f e = rw e tt
finite_number (fin s (suc m) k) f e = rw e tt

-- ---- places in a table

pub inside : (n rows columns h j : ℕ) → n ≡ rows * columns → h < rows → j < columns → h * columns + j < n
inside n rows columns h j e l m = let d : h * columns + j < rows * columns = digits_lt l m in omega (arith, d)

-- a table of so many rows as a space has places
pub sized : {n m rows : ℕ} (l columns : ℕ) → n ≡ m → m ≡ rows * columns → l ≡ rows → n ≡ l * columns
sized l columns e f g = e ∙ f ∙ ap (λ (z : ℕ). z * columns) (sym g)

all-by : {A : Type 0} (p : A → Bool) (xs : List A) (d : A) → ((i : ℕ) → i < length xs → T (p (get_or xs i d))) → T (all p xs)
unfolding all
all-by p [] d h = tt
all-by p (x ∷ xs) d h = and_both (p x) (all p xs) (h 0 (omega arith)) (all-by p xs d (λ i l. h (suc i) (omega arith)))

-- ---- the whole table, column by column

pub record Ranked (rows columns : ℕ) (t : List Float) (j : ℕ) (u : List Float) : Type 0 where
  pub put : (p : ℕ) → p < length t → get_or u p nan ≡ cond (ltb (p % columns) j) (whole (rank (rows_of rows columns t) (p % columns) (get_or t p nan))) (get_or t p nan)
  pub even : length u ≡ length t

at_most-place : (x v : Float) → T (finite x) → T (finite v) → at_most x v ≡ leb (place x) (place v)
at_most-place x v f g =
    at_most-key x v f g ∙ leb-not (key x) (key v) ∙ ap not (iff-ltb (key v) (key x) (place v) (place x) (place-rises v x g f)) ∙ sym (leb-not (place x) (place v))

module _ (t : List Float) (rows columns : ℕ) (ready : Rankable t rows columns) where
  entry-finite : (p : ℕ) → p < length t → T (finite (get_or t p nan))
  entry-finite p h = all_get_d finite t p nan h ready.finitely

  -- the rank of a value is how many of its column's places stand no higher than its own
  rank-places : (j : ℕ) → j < columns → (v : Float) → T (finite v) → rank (rows_of rows columns t) j v ≡ count (λ p. leb p (place v)) (places_in t columns j rows)
  unfolding rank places_in
  rank-places j m v f =
      let X = rows_of rows columns t in
      sym (count_below-list (λ row. at_most (get_or row j nan) v) X [])
      ∙ ap (λ (n : ℕ). count_below n (λ h. at_most (get_or (get_or X h []) j nan) v)) (rows_of-length rows columns t)
      ∙ count_below-same rows (λ h. at_most (get_or (get_or X h []) j nan) v) (λ h. leb (get_or (tabulate rows at) h 0) (place v)) each
      ∙ ap (λ (n : ℕ). count_below n (λ h. leb (get_or (tabulate rows at) h 0) (place v))) (sym (tabulate-length rows at))
      ∙ count_below-list (λ p. leb p (place v)) (tabulate rows at) 0
    where
      at : ℕ → ℕ
      at h = place (get_or t (h * columns + j) nan)

      each : (h : ℕ) → h < rows → at_most (get_or (get_or (rows_of rows columns t) h []) j nan) v ≡ leb (get_or (tabulate rows at) h 0) (place v)
      each h l =
          ap (λ (x : Float). at_most x v) (row-entry t rows columns h j nan l m)
          ∙ at_most-place (get_or t (h * columns + j) nan) v (entry-finite (h * columns + j) (inside (length t) rows columns h j ready.full l m)) f
          ∙ ap (λ (p : ℕ). leb p (place v)) (sym (tabulate-get_d rows at h 0 l))

  pub ranked-start : Ranked rows columns t 0 t
  ranked-start = record { put = λ p h. sym (ap (λ (b : Bool). cond b (whole (rank (rows_of rows columns t) (p % columns) (get_or t p nan))) (get_or t p nan)) (le-ltb (p % columns) 0 (omega arith))); even = refl }

  module _ {j : ℕ} {u : List Float} (s : Ranked rows columns t j u) where
    pub ranked-finite : T (all finite u)
    ranked-finite = all-by finite u nan (λ p l. let k : p < length t = omega (arith, s.even) in subst (λ (x : Float). T (finite x)) (sym (s.put p k)) (go (ltb (p % columns) j) p k))
      where
        go : (b : Bool) (p : ℕ) → p < length t → T (finite (cond b (whole (rank (rows_of rows columns t) (p % columns) (get_or t p nan))) (get_or t p nan)))
        go true p k = whole-finite (pos (rank (rows_of rows columns t) (p % columns) (get_or t p nan))) (omega (arith, rank_most (rows_of rows columns t) (p % columns) (get_or t p nan), rows_of-length rows columns t, ready.rows-most))
        go false p k = entry-finite p k

    -- column j is as it was
    column-kept : (p : ℕ) → p < length t → p % columns ≡ j → get_or u p nan ≡ get_or t p nan
    column-kept p k e = s.put p k ∙ ap (λ (b : Bool). cond b (whole (rank (rows_of rows columns t) (p % columns) (get_or t p nan))) (get_or t p nan)) (le-ltb (p % columns) j (omega arith))

    places-kept : j < columns → places_in u columns j rows ≡ places_in t columns j rows
    unfolding places_in
    places-kept m = tabulate-same rows _ _ (λ h l. ap place (column-kept (h * columns + j) (inside (length t) rows columns h j ready.full l m) (digits_mod h m)))

    pub ranked-turn : {places : List ℕ} {w : List Float} (n : ℕ) → j < columns → n ≡ rows → places ≡ places_in u columns j n → Put columns j places u w → length w ≡ length u → Ranked rows columns t (j + 1) w
    ranked-turn {places = places} {w = w} n m f e put l = record { put = λ p k. put.told p (omega (arith, s.even)) ∙ go p k (ℕ_discrete (p % columns) j); even = l ∙ s.even }
      where
        own : places ≡ places_in t columns j rows
        own = e ∙ ap (places_in u columns j) f ∙ places-kept m

        go : (p : ℕ) → p < length t → Dec (p % columns ≡ j) → cond (eqb (p % columns) j) (ranked_by places (get_or u p nan)) (get_or u p nan) ≡ cond (ltb (p % columns) (j + 1)) (whole (rank (rows_of rows columns t) (p % columns) (get_or t p nan))) (get_or t p nan)
        go p k (yes e) =
            rw (eq-eqb (p % columns) j e, lt-ltb (p % columns) (j + 1) (omega arith))
            (ap (ranked_by places) (column-kept p k e)
            ∙ ap whole (ap (count (λ q. leb q (place (get_or t p nan)))) own ∙ sym (rank-places j m (get_or t p nan) (entry-finite p k)))
            ∙ ap (λ (i : ℕ). whole (rank (rows_of rows columns t) i (get_or t p nan))) (sym e))
        go p k (no e) =
            rw (ne_eqb (p % columns) j e)
            (s.put p k ∙ ap (λ (b : Bool). cond b (whole (rank (rows_of rows columns t) (p % columns) (get_or t p nan))) (get_or t p nan)) (iff-ltb (p % columns) j (p % columns) (j + 1) (λ q. omega arith, λ q. omega (arith, e))))

    pub ranked-end : columns ≤ j → 0 < columns → u ≡ balanced_table t rows columns
    ranked-end h some =
        ext_get_or nan u (balanced_table t rows columns) (s.even ∙ ready.full ∙ sym (balanced_table-length t rows columns ready.full))
        (λ p l. let k : p < length t = omega (arith, s.even) in s.put p k ∙ same p k)
      where
        same : (p : ℕ) → p < length t → cond (ltb (p % columns) j) (whole (rank (rows_of rows columns t) (p % columns) (get_or t p nan))) (get_or t p nan) ≡ get_or (balanced_table t rows columns) p nan
        same p k =
            let i : p % columns < columns = mod-lt p some in
            let q : p < rows * columns = omega (arith, ready.full) in
            let g : p / columns < rows = (div-lt_iff_lt-mul some).1 q in
            let b : p / columns * columns + p % columns ≡ p = div-add-mod' p columns in
            ap (λ (c : Bool). cond c (whole (rank (rows_of rows columns t) (p % columns) (get_or t p nan))) (get_or t p nan)) (lt-ltb (p % columns) j (omega arith))
            ∙ sym (subst (λ (z : ℕ). get_or (balanced_table t rows columns) z nan ≡ whole (rank (rows_of rows columns t) (p % columns) (get_or t z nan))) b (balanced_table-entry t rows columns ready.full (p / columns) (p % columns) g i))
