-- The marks of a table's rows, as the code makes them.
--   bit_in, bit-out      a column that passes, and one that does not; bit_at: by its bit
--   mark-start, mark-turn, mark-done    one row, column after column; mark-room, mark-fits, mark-within: the mask stays below the bit of the next column, and within 32
--   Remarked, remarked-start, remarked-in, remarked-past, remarked-end     the rows whose numbers stand in a list, one after the other; kept-fits, row_inside: the next one
--   rows_all, marks-all  all rows, and the marks of those that stay; numbers-inside: the numbers of all rows
--   all-inside, all-kept, all-marked     the numbers of all rows, and the marks of those that stay
--   tabulated-more, tabulated-all     a table of numbers, one more
use Prim.Native.Nat.{ℕ, zero, suc, ◌+◌, ◌*◌, ◌^◌, ◌≤◌, ◌<◌}
use native.Mathlib.Omega.{arith}
use native.Mathlib.Numerals.{add-one}
use native.Mathlib.Nat.{pow-suc, mul-add, mul_assoc, mul_comm, mul-zero, one-mul, zero-mul}
use mathlib.Core.Path.{◌≡◌, refl, sym, ap, ap₂, ◌∙◌, subst}
use mathlib.Core.Bool.{Bool, true, false, cond}
use mathlib.Core.List.{List, [], ◌∷◌, ◌++◌, map}
use lib.ListN.{length, get_or, take, drop, set, length-map, length-set, drop_of_length-le}
use lib.Seq.{take-suc, take-suc-set, take-set-le, length-take-le, drop-cons, drop-drop, drop-set-lt, get_or-drop, get_or-take, ext_get_or}
use lib.Dec.{T, leb, ltb, ltb→lt, lt→ltb}
use lib.Pow.{pow_mono}
use lib.Ieee.{Float, nan}
use Rattle.order.specs.Counting.{bit, all}
use Rattle.order.specs.Lists.{rows_of, tabulate}
use Rattle.order.proofs.Booleans.{and_both}
use Rattle.order.proofs.Counts.{all_get_d}
use Rattle.order.proofs.Lists.{map_more, get_d_map, tabulate-length, tabulate-get_d, tabulate-more, rows_of-length}
use Rattle.columns.specs.Columns.{size, columns_of, mask_of}
use Rattle.masks.specs.Internal.{CheckedTable}
use Rattle.masks.specs.Marks.{mark_of, those, marks_of, rows_kept, marks_at}
use Rattle.masks.proofs.Those.{those-more, those-map}

-- ---- one row

module _ (p : Float → Bool) (row : List Float) where
  pub mark-start : 0 + 2 ^ 0 * mark_of p (drop 0 row) ≡ mark_of p row
  mark-start = omega arith

  pub mark-turn : (i m d : ℕ) {t : ℕ} → i < length row → d ≡ bit (p (get_or row i nan)) * 2 ^ i → m + 2 ^ i * mark_of p (drop i row) ≡ t → m + d + 2 ^ (i + 1) * mark_of p (drop (i + 1) row) ≡ t
  unfolding mask_of
  mark-turn i m d h e q =
      let next : mark_of p (drop i row) ≡ bit (p (get_or row i nan)) + 2 * mark_of p (drop (i + 1) row) = ap (mark_of p) (drop-cons row i nan h ∙ ap (λ (n : ℕ). get_or row i nan ∷ drop n row) (sym (add-one i))) in
      let times : 2 ^ i * mark_of p (drop i row) ≡ 2 ^ i * bit (p (get_or row i nan)) + 2 ^ i * (2 * mark_of p (drop (i + 1) row)) = ap (λ (x : ℕ). 2 ^ i * x) next ∙ mul-add (2 ^ i) (bit (p (get_or row i nan))) (2 * mark_of p (drop (i + 1) row)) in
      let twice : 2 ^ i * (2 * mark_of p (drop (i + 1) row)) ≡ 2 ^ (i + 1) * mark_of p (drop (i + 1) row) = sym (mul_assoc (2 ^ i) 2 (mark_of p (drop (i + 1) row))) ∙ ap (λ (n : ℕ). n * mark_of p (drop (i + 1) row)) (sym (pow-suc 2 i) ∙ ap (λ (n : ℕ). 2 ^ n) (sym (add-one i))) in
      omega (arith, times, twice, e, mul_comm (2 ^ i) (bit (p (get_or row i nan))), q)

  pub mark-done : (i m : ℕ) {t : ℕ} → length row ≤ i → m + 2 ^ i * mark_of p (drop i row) ≡ t → m ≡ t
  unfolding mask_of
  mark-done i m h q = omega (arith, q, ap (λ (l : List Float). 2 ^ i * mark_of p l) (drop_of_length-le row {i = i} h), mul-zero (2 ^ i))

pub bit_in : (x : ℕ) (b : Bool) → b ≡ true → x ≡ bit b * x
bit_in x b e = sym (ap (λ (c : Bool). bit c * x) e ∙ one-mul x)

pub bit-out : (x : ℕ) (b : Bool) → b ≡ false → 0 ≡ bit b * x
bit-out x b e = sym (ap (λ (c : Bool). bit c * x) e ∙ zero-mul x)

pub bit_at : (bits : List ℕ) (i d : ℕ) (b : Bool) → bits ≡ tabulate 32 (λ j. 2 ^ j) → i < 32 → d ≡ bit b * get_or bits i 0 → d ≡ bit b * 2 ^ i
bit_at bits i d b q h e = e ∙ ap (λ (x : ℕ). bit b * x) (ap (λ (l : List ℕ). get_or l i 0) q ∙ tabulate-get_d 32 (λ j. 2 ^ j) i 0 h)

-- a sum of bits stays below the next bit
pub mark-room : (i m d : ℕ) (b : Bool) → m < 2 ^ i → d ≡ bit b * 2 ^ i → m + d < 2 ^ (i + 1)
mark-room i m d b h e = go b e
  where
    go : (b : Bool) → d ≡ bit b * 2 ^ i → m + d < 2 ^ (i + 1)
    go true e = let r : 2 ^ (i + 1) ≡ 2 ^ i * 2 = ap (λ (x : ℕ). 2 ^ x) (add-one i) ∙ pow-suc 2 i in omega (arith, e, r, one-mul (2 ^ i))
    go false e = let r : 2 ^ (i + 1) ≡ 2 ^ i * 2 = ap (λ (x : ℕ). 2 ^ x) (add-one i) ∙ pow-suc 2 i in omega (arith, e, r, zero-mul (2 ^ i))

pub mark-within : (i m : ℕ) → m < 2 ^ i → i ≤ 32 → m < 2 ^ 32
mark-within i m k h = let q : 2 ^ i ≤ 2 ^ 32 = pow_mono h in omega (arith, q)

pub mark-fits : (i n m : ℕ) → i < n → n ≤ 32 → m < 2 ^ (i + 1) → m < 2 ^ 64
mark-fits i n m h l k = let q = mark-within (i + 1) m k (omega arith) in omega (arith, q)

-- ---- the rows whose numbers stand in a list

append-none : {A : Type 0} (l : List A) → l ++ [] ≡ l
append-none [] = refl
append-none (x ∷ l) = ap (λ s. x ∷ s) (append-none l)

-- the first m places hold those of the first i numbers that stay, and the places from i on are as they were
pub record Remarked (t : List Float) (rows cols k n : ℕ) (p : Float → Bool) (kept₀ marks₀ kept marks : List ℕ) (m i : ℕ) : Type 0 where
  pub ready : CheckedTable t rows cols k
  pub room : (n ≤ length kept₀) × (n ≤ length marks₀)
  pub inside : T (all (λ g. ltb g rows) (take n kept₀))
  pub place : i ≤ n
  pub few : m ≤ i
  pub as_long : (length kept ≡ length kept₀) × (length marks ≡ length marks₀)
  pub ahead : drop i kept ≡ drop i kept₀
  pub stay : take m kept ≡ rows_kept k p (rows_of rows cols t) (take i kept₀)
  pub marked : take m marks ≡ marks_at p (rows_of rows cols t) (take m kept)

pub remarked-start : (t : List Float) (rows cols k n : ℕ) (p : Float → Bool) (kept marks : List ℕ) → CheckedTable t rows cols k → n ≤ length kept → n ≤ length marks → T (all (λ g. ltb g rows) (take n kept)) → Remarked t rows cols k n p kept marks kept marks 0 0
unfolding rows_kept those
remarked-start t rows cols k n p kept marks r a b s = record { ready = r; room = (a, b); inside = s; place = omega arith; few = omega arith; as_long = (refl, refl); ahead = refl; stay = refl; marked = refl }

module _ {t : List Float} {rows cols k n : ℕ} {p : Float → Bool} {kept₀ marks₀ kept marks : List ℕ} {m i : ℕ} (w : Remarked t rows cols k n p kept₀ marks₀ kept marks m i) (h : i < n) where
  pub kept-fits : i < length kept
  kept-fits = omega (arith, w.room.0, w.as_long.0)

  own : get_or kept i 0 ≡ get_or kept₀ i 0
  own = let z : i + 0 ≡ i = omega arith in
      ap (λ (j : ℕ). get_or kept j 0) (sym z) ∙ sym (get_or-drop i kept 0 0) ∙ ap (λ (l : List ℕ). get_or l 0 0) w.ahead ∙ get_or-drop i kept₀ 0 0 ∙ ap (λ (j : ℕ). get_or kept₀ j 0) z

  pub row_inside : get_or kept i 0 < rows
  row_inside = subst (λ (g : ℕ). g < rows) (sym (own ∙ sym (get_or-take n kept₀ i 0 h)))
      (ltb→lt (get_or (take n kept₀) i 0) rows (all_get_d (λ g. ltb g rows) (take n kept₀) i 0 (omega (arith, length-take-le n kept₀ w.room.0)) w.inside))

  abbrev g : ℕ
  g = get_or kept i 0

  module _ (x : ℕ) (row-mark : x ≡ mark_of p (get_or (rows_of rows cols t) (get_or kept i 0) [])) where
    -- one number more
    kept_more : (b : Bool) → leb k (size (columns_of 32 x)) ≡ b → rows_kept k p (rows_of rows cols t) (take (i + 1) kept₀) ≡ take m kept ++ cond b (get_or kept i 0 ∷ []) []
    unfolding rows_kept
    kept_more b e =
        ap (rows_kept k p (rows_of rows cols t)) (ap (λ (j : ℕ). take j kept₀) (add-one i) ∙ take-suc kept₀ i 0 (omega (arith, w.room.0)) ∙ ap (λ (y : ℕ). take i kept₀ ++ (y ∷ [])) (sym own))
        ∙ those-more (λ y. leb k (size (columns_of 32 (mark_of p (get_or (rows_of rows cols t) y []))))) (take i kept₀) (get_or kept i 0)
        ∙ ap₂ (λ (l : List ℕ) (c : Bool). l ++ cond c (get_or kept i 0 ∷ []) []) (sym w.stay) (ap (λ (y : ℕ). leb k (size (columns_of 32 y))) (sym row-mark) ∙ e)

    ahead' : drop (i + 1) (set kept m (get_or kept i 0)) ≡ drop (i + 1) kept₀
    ahead' = drop-set-lt (i + 1) kept m (get_or kept i 0) (omega (arith, w.few)) ∙ sym (drop-drop 1 i kept) ∙ ap (drop 1) w.ahead ∙ drop-drop 1 i kept₀

    lengths : (length (set kept m (get_or kept i 0)) ≡ length kept₀) × (length (set marks m x) ≡ length marks₀)
    lengths = (length-set kept m (get_or kept i 0) ∙ w.as_long.0, length-set marks m x ∙ w.as_long.1)

    pub remarked-in : (m' : ℕ) → leb k (size (columns_of 32 x)) ≡ true → m' ≡ m + 1 → Remarked t rows cols k n p kept₀ marks₀ (set kept m (get_or kept i 0)) (set marks m x) m' (i + 1)
    remarked-in m' e f = record {
      ready = w.ready;
      room = w.room;
      inside = w.inside;
      place = omega arith;
      few = omega (arith, w.few);
      as_long = lengths;
      ahead = ahead';
      stay = longer ∙ sym (kept_more true e);
      marked = ap (λ (j : ℕ). take j (set marks m x)) (f ∙ add-one m) ∙ take-suc-set marks m x (omega (arith, w.few, w.room.1, w.as_long.1)) ∙ ap₂ (λ (l : List ℕ) (y : ℕ). l ++ (y ∷ [])) w.marked row-mark
          ∙ sym (map_more (λ y. mark_of p (get_or (rows_of rows cols t) y [])) (take m kept) (get_or kept i 0)) ∙ ap (marks_at p (rows_of rows cols t)) (sym longer);
    }
      where
        longer : take m' (set kept m (get_or kept i 0)) ≡ take m kept ++ (get_or kept i 0 ∷ [])
        longer = ap (λ (j : ℕ). take j (set kept m (get_or kept i 0))) (f ∙ add-one m) ∙ take-suc-set kept m (get_or kept i 0) (omega (arith, w.few, kept-fits))

    pub remarked-past : (m' : ℕ) → leb k (size (columns_of 32 x)) ≡ false → m' ≡ m → Remarked t rows cols k n p kept₀ marks₀ (set kept m (get_or kept i 0)) (set marks m x) m' (i + 1)
    remarked-past m' e f = record {
      ready = w.ready;
      room = w.room;
      inside = w.inside;
      place = omega arith;
      few = omega (arith, w.few);
      as_long = lengths;
      ahead = ahead';
      stay = same ∙ sym (kept_more false e ∙ append-none (take m kept));
      marked = ap (λ (j : ℕ). take j (set marks m x)) f ∙ take-set-le m marks m x (omega arith) ∙ w.marked ∙ ap (marks_at p (rows_of rows cols t)) (sym same);
    }
      where
        same : take m' (set kept m (get_or kept i 0)) ≡ take m kept
        same = ap (λ (j : ℕ). take j (set kept m (get_or kept i 0))) f ∙ take-set-le m kept m (get_or kept i 0) (omega arith)

pub remarked-end : {t : List Float} {rows cols k n : ℕ} {p : Float → Bool} {kept₀ marks₀ kept marks : List ℕ} {m i : ℕ} → Remarked t rows cols k n p kept₀ marks₀ kept marks m i → n ≤ i
    → (m ≤ n) × (take m kept ≡ rows_kept k p (rows_of rows cols t) (take n kept₀)) × (take m marks ≡ marks_at p (rows_of rows cols t) (take m kept))
remarked-end {t} {rows} {cols} {k} {n} {p} {kept₀} {i = i} w h = let z : i ≡ n = omega (arith, w.place) in (omega (arith, w.few, w.place), w.stay ∙ ap (λ (j : ℕ). rows_kept k p (rows_of rows cols t) (take j kept₀)) z, w.marked)

-- ---- all rows

pub rows_all : (X : List (List Float)) → map (λ g. get_or X g []) (tabulate (length X) (λ g. g)) ≡ X
rows_all X = ext_get_or [] (map (λ g. get_or X g []) (tabulate (length X) (λ g. g))) X long
    (λ i h. get_d_map (λ g. get_or X g []) (tabulate (length X) (λ g. g)) i 0 [] (omega (arith, tabulate-length (length X) (λ g. g), long)) ∙ ap (λ (g : ℕ). get_or X g []) (tabulate-get_d (length X) (λ g. g) i 0 (omega (arith, long))))
  where
    long : length (map (λ g. get_or X g []) (tabulate (length X) (λ g. g))) ≡ length X
    long = length-map (tabulate (length X) (λ g. g)) (λ g. get_or X g []) ∙ tabulate-length (length X) (λ g. g)

pub marks-all : (k : ℕ) (p : Float → Bool) (X : List (List Float)) → marks_at p X (rows_kept k p X (tabulate (length X) (λ g. g))) ≡ marks_of k p X
unfolding rows_kept marks_of
marks-all k p X =
    sym (those-map (λ g. mark_of p (get_or X g [])) (λ m. leb k (size (columns_of 32 m))) (tabulate (length X) (λ g. g)))
    ∙ ap (those (λ m. leb k (size (columns_of 32 m)))) (sym (map-map (λ row. mark_of p row) (λ g. get_or X g []) (tabulate (length X) (λ g. g))) ∙ ap (map (λ row. mark_of p row)) (rows_all X))
  where
    map-map : {A B C : Type 0} (f : B → C) (e : A → B) (l : List A) → map f (map e l) ≡ map (λ x. f (e x)) l
    map-map f e [] = refl
    map-map f e (x ∷ l) = ap (λ m. f (e x) ∷ m) (map-map f e l)

below : (n m : ℕ) (f : ℕ → ℕ) → ((i : ℕ) → i < n → T (ltb (f i) m)) → T (all (λ g. ltb g m) (tabulate n f))
unfolding tabulate all
below zero m f h = tt
below (suc n) m f h = and_both (ltb (f 0) m) (all (λ g. ltb g m) (tabulate n (λ i. f (suc i)))) (h 0 (omega arith)) (below n m (λ i. f (suc i)) (λ i l. h (suc i) (omega arith)))

pub numbers-inside : (n : ℕ) → T (all (λ g. ltb g n) (tabulate n (λ g. g)))
numbers-inside n = below n n (λ g. g) (λ i h. lt→ltb i n h)

pub all-inside : (rows : ℕ) (kept : List ℕ) → take rows kept ≡ tabulate rows (λ g. g) → T (all (λ g. ltb g rows) (take rows kept))
all-inside rows kept q = subst (λ (l : List ℕ). T (all (λ g. ltb g rows) l)) (sym q) (numbers-inside rows)

pub all-kept : (k : ℕ) (p : Float → Bool) (X : List (List Float)) (gs hs ns : List ℕ) → ns ≡ rows_kept k p X gs → gs ≡ hs → ns ≡ rows_kept k p X hs
all-kept k p X gs hs ns e q = e ∙ ap (rows_kept k p X) q

-- the rows that stay of all, and their marks
pub all-marked : (t : List Float) (rows cols k : ℕ) (p : Float → Bool) (ns ms : List ℕ) → ns ≡ rows_kept k p (rows_of rows cols t) (tabulate rows (λ g. g)) → ms ≡ marks_at p (rows_of rows cols t) ns → ms ≡ marks_of k p (rows_of rows cols t)
all-marked t rows cols k p ns ms s m = m ∙ ap (marks_at p (rows_of rows cols t)) (s ∙ ap (λ (n : ℕ). rows_kept k p (rows_of rows cols t) (tabulate n (λ g. g))) (sym (rows_of-length rows cols t))) ∙ marks-all k p (rows_of rows cols t)

-- a table of numbers, one after the other
pub tabulated-more : (f : ℕ → ℕ) (g x : ℕ) (kept us : List ℕ) → g < length kept → x ≡ f g → us ≡ set kept g x → take g kept ≡ tabulate g f → take (g + 1) us ≡ tabulate (g + 1) f
tabulated-more f g x kept us h p e w = ap₂ (λ (j : ℕ) (l : List ℕ). take j l) (add-one g) e ∙ take-suc-set kept g x h ∙ ap₂ (λ (l : List ℕ) (y : ℕ). l ++ (y ∷ [])) w p ∙ sym (tabulate-more g f)

pub tabulated-all : (f : ℕ → ℕ) (g rows : ℕ) (kept : List ℕ) → g ≤ rows → rows ≤ g → take g kept ≡ tabulate g f → take rows kept ≡ tabulate rows f
tabulated-all f g rows kept h l p = let z : g ≡ rows = omega arith in subst (λ (n : ℕ). take n kept ≡ tabulate n f) z p
