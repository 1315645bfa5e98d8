-- The counts of all columns, row by row.
--   Tallied          what holds in a row before each column; tallied-start, tallied-turn, tallied-end; count_fits: a count stays small
--   Surveyed         what holds before each row; surveyed-start, surveyed-row, surveyed-turn, surveyed-end
use Prim.Native.Nat.{ℕ, zero, suc, ◌+◌, ◌-◌, ◌*◌, ◌≤◌, ◌<◌}
use native.Mathlib.Omega.{arith}
use native.Mathlib.Numerals.{add-one}
use native.Mathlib.Decide.{dec_lt}
use mathlib.Core.Path.{◌≡◌, refl, sym, ap, ap₂, ◌∙◌, subst}
use mathlib.Core.List.{List, [], ◌∷◌, ◌++◌}
use lib.ListN.{length, get_or, take, set, replicate, length-set, length-replicate}
use lib.Seq.{length-take-le, take-suc, take_all, get_or-set_same, get_or-set_other, ext_get_or}
use lib.Ieee.{Float, nan}
use Rattle.order.specs.Order.{at_most}
use Rattle.order.specs.Counting.{bit, count}
use Rattle.order.specs.Lists.{rows_of, tabulate, padded}
use Rattle.order.proofs.Counts.{bit-one, count-append, count-length}
use Rattle.order.proofs.Lists.{rows_of-length, row-entry, tabulate-length, tabulate-get_d, padded-length}
use Rattle.method.specs.Method.{at_least}
use Rattle.masks.specs.Internal.{CheckedTable}
use Rattle.masks.proofs.Parts.{row-length}
use Rattle.critical.specs.Internal.{Tallying}

-- ---- one row

-- where a value reaches another, at one column
abbrev pub hit : List Float → List Float → ℕ → ℕ
hit row observed j = bit (at_most (get_or observed j nan) (get_or row j nan))

pub record Tallied (row observed : List Float) (counts₀ counts : List ℕ) (j : ℕ) : Type 0 where
  pub ready : Tallying row observed counts₀
  pub place : j ≤ length row
  pub as_long : length counts ≡ length counts₀
  pub ahead : (i : ℕ) → j ≤ i → get_or counts i 0 ≡ get_or counts₀ i 0
  pub behind : (i : ℕ) → i < j → get_or counts i 0 ≡ get_or counts₀ i 0 + hit row observed i

pub tallied-start : {row observed : List Float} {counts : List ℕ} → Tallying row observed counts → Tallied row observed counts counts 0
tallied-start r = record { ready = r; place = omega arith; as_long = refl; ahead = λ i h. refl; behind = λ i h. absurd (omega arith) }

module _ {row observed : List Float} {counts₀ counts : List ℕ} {j : ℕ} (w : Tallied row observed counts₀ counts j) where
  module _ (h : j < length row) where
    pub count_fits : (d : ℕ) → d ≡ hit row observed j → get_or counts j 0 + d ≤ 4097
    count_fits d e = omega (arith, e, bit-one (at_most (get_or observed j nan) (get_or row j nan)), w.ahead j (omega arith), w.ready.small j)

    pub tallied-turn : (d : ℕ) → d ≡ hit row observed j → Tallied row observed counts₀ (set counts j (get_or counts j 0 + d)) (j + 1)
    tallied-turn d e = record {
      ready = w.ready;
      place = omega arith;
      as_long = length-set counts j (get_or counts j 0 + d) ∙ w.as_long;
      ahead = λ i l. get_or-set_other counts j i (get_or counts j 0 + d) 0 (λ q. omega arith) ∙ w.ahead i (omega arith);
      behind = λ i l. go i l (dec_lt i j);
    }
      where
        go : (i : ℕ) → i < j + 1 → Dec (i < j) → get_or (set counts j (get_or counts j 0 + d)) i 0 ≡ get_or counts₀ i 0 + hit row observed i
        go i l (yes g) = get_or-set_other counts j i (get_or counts j 0 + d) 0 (λ q. omega arith) ∙ w.behind i g
        go i l (no g) = let z : j ≡ i = omega (arith, g) in subst (λ (i : ℕ). get_or (set counts j (get_or counts j 0 + d)) i 0 ≡ get_or counts₀ i 0 + hit row observed i) z
            (get_or-set_same counts j (get_or counts j 0 + d) 0 (omega (arith, w.as_long, w.ready.room)) ∙ omega (arith, w.ahead j (omega arith), e))

  pub tallied-end : length row ≤ j → (i : ℕ) → i < length row → get_or counts i 0 ≡ get_or counts₀ i 0 + bit (at_most (get_or observed i nan) (get_or row i nan))
  tallied-end h i l = w.behind i (omega arith)

  pub tallied-rest : length row ≤ j → (i : ℕ) → length row ≤ i → get_or counts i 0 ≡ get_or counts₀ i 0
  tallied-rest h i l = w.ahead i (omega (arith, w.place))

-- ---- an array of counts

zeros : (n j : ℕ) → ◌≡◌ {A = ℕ} (get_or (replicate n 0) j 0) 0
zeros zero j = refl
zeros (suc n) zero = refl
zeros (suc n) (suc j) = zeros n j

padded-front : (l r : List ℕ) (j : ℕ) → j < length l → get_or (l ++ r) j 0 ≡ get_or l j 0
padded-front [] r j h = absurd (omega arith)
padded-front (x ∷ l) r zero h = refl
padded-front (x ∷ l) r (suc j) h = padded-front l r j (omega arith)

padded-back : (l : List ℕ) (n j : ℕ) → length l ≤ j → ◌≡◌ {A = ℕ} (get_or (l ++ replicate n 0) j 0) 0
padded-back [] n j h = zeros n j
padded-back (x ∷ l) n zero h = absurd (omega arith)
padded-back (x ∷ l) n (suc j) h = padded-back l n j (omega arith)

-- ---- row after row

module _ (t : List Float) (rows columns observed : ℕ) where
  -- how many of the first g rows reach the observed value of column j
  unfoldable pub reached_by : ℕ → ℕ → ℕ
  reached_by g j = count (λ row. at_most (get_or t (observed * columns + j) nan) (get_or row j nan)) (take g (rows_of rows columns t))

  pub record Surveyed (k : ℕ) (counts : List ℕ) (g : ℕ) : Type 0 where
    pub ready : CheckedTable t rows columns k
    pub seen : observed < rows
    pub place : g ≤ rows
    pub room : length counts ≡ 32
    pub counted : (j : ℕ) → j < columns → get_or counts j 0 ≡ reached_by g j
    pub others : (j : ℕ) → columns ≤ j → get_or counts j 0 ≡ 0

  pub surveyed-start : (k : ℕ) → CheckedTable t rows columns k → observed < rows → Surveyed k (replicate 32 0) 0
  unfolding reached_by count
  surveyed-start k r h = record {
    ready = r;
    seen = h;
    place = omega arith;
    room = length-replicate {A = ℕ} 32 0;
    counted = λ j l. zeros 32 j;
    others = λ j l. zeros 32 j;
  }

module _ {t : List Float} {rows columns observed k : ℕ} {counts : List ℕ} {g : ℕ} (w : Surveyed t rows columns observed k counts g) where
  abbrev X : List (List Float)
  X = rows_of rows columns t

  abbrev whole : List ℕ
  whole = tabulate columns (λ j. at_least (rows_of rows columns t) (get_or t (observed * columns + j) nan) j)

  pub surveyed-end : rows ≤ g → counts ≡ padded 32 0 (tabulate columns (λ j. at_least (rows_of rows columns t) (get_or t (observed * columns + j) nan) j))
  unfolding at_least reached_by
  surveyed-end h = ext_get_or 0 counts (padded 32 0 whole) (w.room ∙ sym (padded-length 32 0 whole (omega (arith, long, w.ready.cols-most)))) (λ j l. go j (dec_lt j columns))
    where
      long : length whole ≡ columns
      long = tabulate-length columns (λ j. at_least (rows_of rows columns t) (get_or t (observed * columns + j) nan) j)

      go : (j : ℕ) → Dec (j < columns) → get_or counts j 0 ≡ get_or (padded 32 0 whole) j 0
      go j (yes l) = w.counted j l ∙ ap (λ (Y : List (List Float)). count (λ row. at_most (get_or t (observed * columns + j) nan) (get_or row j nan)) Y) (take_all g X (omega (arith, rows_of-length rows columns t)))
          ∙ sym (padded-front whole (replicate (32 - length whole) 0) j (omega (arith, long)) ∙ tabulate-get_d columns (λ j. at_least (rows_of rows columns t) (get_or t (observed * columns + j) nan) j) j 0 l)
      go j (no l) = w.others j (omega (arith, l)) ∙ sym (padded-back whole (32 - length whole) j (omega (arith, l, long)))

  module _ (h : g < rows) where
    reached-more : (j : ℕ) → reached_by t rows columns observed (g + 1) j ≡ reached_by t rows columns observed g j + bit (at_most (get_or t (observed * columns + j) nan) (get_or (get_or (rows_of rows columns t) g []) j nan))
    unfolding reached_by count
    reached-more j =
        ap (count (λ row. at_most (get_or t (observed * columns + j) nan) (get_or row j nan))) (ap (λ (n : ℕ). take n X) (add-one g) ∙ take-suc X g [] (omega (arith, rows_of-length rows columns t)))
        ∙ count-append (λ row. at_most (get_or t (observed * columns + j) nan) (get_or row j nan)) (take g X) (get_or X g [] ∷ []) ∙ omega arith

    count_small : (j : ℕ) → get_or counts j 0 ≤ 4096
    unfolding reached_by
    count_small j = go (dec_lt j columns)
      where
        go : Dec (j < columns) → get_or counts j 0 ≤ 4096
        go (yes l) = omega (arith, w.counted j l, count-length (λ row. at_most (get_or t (observed * columns + j) nan) (get_or row j nan)) (take g X), length-take-le g X (omega (arith, rows_of-length rows columns t)), w.ready.rows-most)
        go (no l) = omega (arith, w.others j (omega (arith, l)))

    module _ (row seen : List Float) (own : row ≡ get_or (rows_of rows columns t) g []) (seen-is : seen ≡ get_or (rows_of rows columns t) observed []) where
      pub surveyed-row : Tallying row seen counts
      surveyed-row = record {
        even = row-length t rows columns k observed w.ready w.seen seen seen-is ∙ sym (row-length t rows columns k g w.ready h row own);
        room = omega (arith, row-length t rows columns k g w.ready h row own, w.room, w.ready.cols-most);
        small = count_small;
      }

      module _ (counts' : List ℕ) (as_long : length counts' ≡ length counts)
          (tallied : ((j : ℕ) → j < length row → get_or counts' j 0 ≡ get_or counts j 0 + bit (at_most (get_or seen j nan) (get_or row j nan)))
          × ((j : ℕ) → length row ≤ j → get_or counts' j 0 ≡ get_or counts j 0)) where
        observed-is : (j : ℕ) → j < columns → get_or seen j nan ≡ get_or t (observed * columns + j) nan
        observed-is j l = ap (λ (r : List Float). get_or r j nan) seen-is ∙ row-entry t rows columns observed j nan w.seen l

        pub surveyed-turn : Surveyed t rows columns observed k counts' (g + 1)
        surveyed-turn = record {
          ready = w.ready;
          seen = w.seen;
          place = omega arith;
          room = as_long ∙ w.room;
          counted = λ j l. tallied.0 j (omega (arith, row-length t rows columns k g w.ready h row own))
              ∙ ap₂ (λ (a b : ℕ). a + b) (w.counted j l) (ap₂ (λ (x y : Float). bit (at_most x y)) (observed-is j l) (ap (λ (r : List Float). get_or r j nan) own))
              ∙ sym (reached-more j);
          others = λ j l. tallied.1 j (omega (arith, row-length t rows columns k g w.ready h row own)) ∙ w.others j l;
        }
