-- c(K) by the rows that are marked by a value v, where more than e of them have k columns of K above it.
--   marked-columns, marked-count     how many marks hold k columns of a set: as many as rows exceed v
--   marked-inside    the marked rows are rows of the table
--   marked-again     marked by a larger value, out of the rows marked by v
--   Raised           what holds as the k-max values of those rows are filled in
--   raised-start, raised-in, raised-past, raised-done     one row after the other; place-fits, row_fits, row-test: the next one
--   raised-enough, raised-rank, raised_is     their quantile is c(K)
use Prim.Native.Nat.{ℕ, ◌+◌, ◌-◌, ◌^◌, ◌≤◌, ◌<◌}
use native.Mathlib.Omega.{arith}
use native.Mathlib.Numerals.{add-one}
use mathlib.Core.Path.{◌≡◌, refl, sym, ap, ap₂, ◌∙◌, subst}
use mathlib.Core.Logic.{◌↔◌}
use mathlib.Core.Bool.{Bool, true, false, cond}
use mathlib.Core.List.{List, [], ◌∷◌, ◌++◌, map}
use lib.ListN.{length, get_or, take, drop, set, length-map, length-set}
use lib.Seq.{take-suc, take-suc-set, take_all, drop-set-lt, length-take-le}
use lib.Dec.{T, leb, ltb, ltb→lt, lt→ltb, leb→le, le→leb}
use lib.Ieee.{Float}
use borrow.Author.Tests.{ltb-false, le-ltb}
use Rattle.order.specs.Order.{finite, low, smaller}
use Rattle.order.specs.Counting.{bit, count, all}
use Rattle.order.specs.Lists.{rows_of, tabulate}
use Rattle.order.proofs.Booleans.{and_left, and_right, not-below}
use Rattle.order.proofs.Counts.{all_get_d, count-length, count_map}
use Rattle.order.proofs.Infinities.{finite-low, smaller-low}
use Rattle.order.proofs.Keys.{key, with_plus_zero-same, zero-finite}
use Rattle.order.proofs.Lists.{get_d_map, map_more, tabulate-length, rows_of-length}
use Rattle.order.proofs.Rows.{Finite, sound_row, Sound, sound-length, sound-finite, rows_of-sound}
use Rattle.select.specs.Rank.{mth_smallest}
use Rattle.select.proofs.Ranks.{above, mth_smallest-above, mth_smallest-plain, mth_smallest-keeps}
use Rattle.columns.specs.Columns.{Columns, size, columns_of}
use Rattle.columns.proofs.Masks.{columns_of-length}
use Rattle.method.specs.Method.{k_max, critical_value}
use Rattle.method.proofs.Critical.{tops, tops-finite, critical_value-law, critical_value-finite}
use Rattle.method.proofs.Exceeding.{exceeds, k_max-exceeds, exceed-law}
use Rattle.masks.specs.Internal.{CheckedTable}
use Rattle.masks.specs.Marks.{passes, mark_of, holds, holding, holding_columns, those, rows_kept, marks_at}
use Rattle.masks.proofs.Marking.{rows_all, marks-all, numbers-inside}
use Rattle.masks.proofs.Marks.{row-some, row-holds, mark-narrow, marks-counted, holding-columns}
use Rattle.masks.proofs.Those.{those-more, those-length, those-all, those-map, those-narrow}
use Rattle.critical.specs.Internal.{Marked, tops_above}

-- ---- how many

module _ (n k : ℕ) (X : List (List Float)) (sound : Sound n X) (narrow : n ≤ 32) {v : Float} {kept marks : List ℕ} (w : Marked X k v kept marks) where
  pub marked-columns : (K : Columns) → length K ≡ n → holding_columns k K marks ≡ count (exceeds k K v) X
  marked-columns K h = ap (holding_columns k K) (w.marked ∙ ap (marks_at (λ x. smaller v x) X) w.stay ∙ marks-all k (λ x. smaller v x) X) ∙ marks-counted n k (λ x. smaller v x) X sound narrow K h

  pub marked-count : (s : ℕ) → s < 2 ^ n → holding k s marks ≡ count (exceeds k (columns_of n s) v) X
  marked-count s h = holding-columns n k s marks narrow h ∙ marked-columns (columns_of n s) (columns_of-length n s)

  pub marked-inside : T (all (λ g. ltb g (length X)) kept)
  unfolding rows_kept
  marked-inside = subst (λ (l : List ℕ). T (all (λ g. ltb g (length X)) l)) (sym w.stay) (those-all _ (λ g. ltb g (length X)) (tabulate (length X) (λ g. g)) (numbers-inside (length X)))

  marked-few : length kept ≤ length X
  unfolding rows_kept
  marked-few = omega (
    arith,
    ap length w.stay,
    those-length (λ g. leb k (size (columns_of 32 (mark_of (λ x. smaller v x) (get_or X g []))))) (tabulate (length X) (λ g. g)),
    count-length (λ g. leb k (size (columns_of 32 (mark_of (λ x. smaller v x) (get_or X g []))))) (tabulate (length X) (λ g. g)),
    tabulate-length (length X) (λ g. g),
  )

  marked-even : length marks ≡ length kept
  marked-even = ap length w.marked ∙ length-map kept (λ g. mark_of (λ x. smaller v x) (get_or X g []))

  module _ (i : ℕ) (h : i < length marks) where
    marked_row : get_or kept i 0 < length X
    marked_row = ltb→lt (get_or kept i 0) (length X) (all_get_d (λ g. ltb g (length X)) kept i 0 (omega (arith, marked-even)) marked-inside)

    row_is : T (sound_row n (get_or X (get_or kept i 0) []))
    row_is = all_get_d (sound_row n) X (get_or kept i 0) [] marked_row sound

    marked-test : (s : ℕ) → s < 2 ^ n → holds k s (get_or marks i 0) ≡ exceeds k (columns_of n s) v (get_or X (get_or kept i 0) [])
    marked-test s l =
        ap (holds k s) (ap (λ (ms : List ℕ). get_or ms i 0) w.marked ∙ get_d_map (λ g. mark_of (λ x. smaller v x) (get_or X g [])) kept i 0 0 (omega (arith, marked-even)))
        ∙ row-holds n k s (λ x. smaller v x) (get_or X (get_or kept i 0) []) narrow l (sound-length n (get_or X (get_or kept i 0) []) row_is)

  -- by a larger value, out of these rows
  module _ (c : Float) (l : T (low c)) (g : T (smaller v c)) where
    above-both : (x : Float) → T (finite x) → T (smaller c x) → T (smaller v x)
    above-both x f t = subst (λ (b : Bool). T b) (sym (smaller-low v x w.floor (finite-low x f))) (lt→ltb (key v) (key x) (omega (
      arith,
      ltb→lt (key v) (key c) (subst (λ (b : Bool). T b) (smaller-low v c w.floor l) g),
      ltb→lt (key c) (key x) (subst (λ (b : Bool). T b) (smaller-low c x l (finite-low x f)) t),
    )))

    fewer : (row : List Float) → T (sound_row n row) → T (leb k (size (columns_of 32 (mark_of (λ x. smaller c x) row)))) → T (leb k (size (columns_of 32 (mark_of (λ x. smaller v x) row))))
    fewer row f t = le→leb k (size (columns_of 32 (mark_of (λ x. smaller v x) row))) (omega (
      arith,
      leb→le k (size (columns_of 32 (mark_of (λ x. smaller c x) row))) t,
      mark-narrow (λ x. smaller v x) (λ x. smaller c x) row (omega (arith, sound-length n row f)) (sound-finite n row f) above-both,
    ))

    pub marked-again : (kept' marks' : List ℕ) → kept' ≡ rows_kept k (λ x. passes true c x) X kept → marks' ≡ marks_at (λ x. passes true c x) X kept' → Marked X k c kept' marks'
    unfolding rows_kept
    marked-again kept' marks' s m = record {
      floor = l;
      stay = s ∙ ap (rows_kept k (λ x. smaller c x) X) w.stay ∙ those-narrow (λ g. ltb g (length X)) (λ g. leb k (size (columns_of 32 (mark_of (λ x. smaller v x) (get_or X g []))))) (λ g. leb k (size (columns_of 32 (mark_of (λ x. smaller c x) (get_or X g [])))))
          (tabulate (length X) (λ g. g)) (λ g h t. fewer (get_or X g []) (all_get_d (sound_row n) X g [] (ltb→lt g (length X) h) sound) t) (numbers-inside (length X));
      marked = m;
    }

-- the same of a checked table
module _ {t : List Float} {rows cols k : ℕ} (r : CheckedTable t rows cols k) {v : Float} {kept marks : List ℕ} (w : Marked (rows_of rows cols t) k v kept marks) (i : ℕ) (h : i < length marks) where
  rows-sound : Sound cols (rows_of rows cols t)
  rows-sound = rows_of-sound rows cols t r.full r.finitely

  pub place-fits : (i < length kept) × (i < rows)
  place-fits = (omega (arith, marked-even cols k (rows_of rows cols t) rows-sound r.cols-most w), omega (arith, marked-even cols k (rows_of rows cols t) rows-sound r.cols-most w, marked-few cols k (rows_of rows cols t) rows-sound r.cols-most w, rows_of-length rows cols t))

  pub row_fits : get_or kept i 0 < rows
  row_fits = omega (arith, marked_row cols k (rows_of rows cols t) rows-sound r.cols-most w i h, rows_of-length rows cols t)

  pub row-test : (s : ℕ) → s < 2 ^ cols → (b c : Bool) → b ≡ holds k s (get_or marks i 0) → b ≡ c → exceeds k (columns_of cols s) v (get_or (rows_of rows cols t) (get_or kept i 0) []) ≡ c
  row-test s l b c e f = sym (marked-test cols k (rows_of rows cols t) rows-sound r.cols-most w i h s l) ∙ sym e ∙ f

-- ---- the work buffer

abbrev pub top_at : List (List Float) → ℕ → Columns → ℕ → Float
top_at X k K g = k_max k K (get_or X g [])

pub record Raised (X : List (List Float)) (k : ℕ) (K : Columns) (v : Float) (kept : List ℕ) (work₀ work : List Float) (n i : ℕ) : Type 0 where
  pub few : n ≤ i
  pub as_long : length work ≡ length work₀
  pub back : drop (length X) work ≡ drop (length X) work₀
  pub front : take n work ≡ map (top_at X k K) (those (λ g. exceeds k K v (get_or X g [])) (take i kept))

pub raised-start : (X : List (List Float)) (k : ℕ) (K : Columns) (v : Float) (kept : List ℕ) (work : List Float) → Raised X k K v kept work work 0 0
unfolding those
raised-start X k K v kept work = record { few = omega arith; as_long = refl; back = refl; front = refl }

module _ {X : List (List Float)} {k : ℕ} {K : Columns} {v : Float} {kept : List ℕ} {work₀ work : List Float} {n i : ℕ} (r : Raised X k K v kept work₀ work n i) where
  module _ (h : i < length kept) where
    more : (b : Bool) → exceeds k K v (get_or X (get_or kept i 0) []) ≡ b
        → map (top_at X k K) (those (λ g. exceeds k K v (get_or X g [])) (take (i + 1) kept)) ≡ take n work ++ cond b (top_at X k K (get_or kept i 0) ∷ []) []
    more b e =
        ap (λ (l : List ℕ). map (top_at X k K) (those (λ g. exceeds k K v (get_or X g [])) l)) (ap (λ (j : ℕ). take j kept) (add-one i) ∙ take-suc kept i 0 h)
        ∙ ap (map (top_at X k K)) (those-more (λ g. exceeds k K v (get_or X g [])) (take i kept) (get_or kept i 0) ∙ ap (λ (c : Bool). those (λ g. exceeds k K v (get_or X g [])) (take i kept) ++ cond c (get_or kept i 0 ∷ []) []) e)
        ∙ join b (those (λ g. exceeds k K v (get_or X g [])) (take i kept)) ∙ ap (λ (l : List Float). l ++ cond b (top_at X k K (get_or kept i 0) ∷ []) []) (sym r.front)
      where
        join : (b : Bool) (l : List ℕ) → map (top_at X k K) (l ++ cond b (get_or kept i 0 ∷ []) []) ≡ map (top_at X k K) l ++ cond b (top_at X k K (get_or kept i 0) ∷ []) []
        join true l = map_more (top_at X k K) l (get_or kept i 0)
        join false [] = refl
        join false (g ∷ l) = ap (λ (m : List Float). top_at X k K g ∷ m) (join false l)

    pub raised-in : (m : ℕ) (us : List Float) (x : Float) → n < length work → i < length X → exceeds k K v (get_or X (get_or kept i 0) []) ≡ true → x ≡ k_max k K (get_or X (get_or kept i 0) []) → us ≡ set work n x → m ≡ n + 1
        → Raised X k K v kept work₀ us m (i + 1)
    raised-in m us x l b e q u f = record {
      few = omega (arith, r.few);
      as_long = ap length u ∙ length-set work n x ∙ r.as_long;
      back = ap (drop (length X)) u ∙ drop-set-lt (length X) work n x (omega (arith, r.few)) ∙ r.back;
      front = ap₂ (λ (j : ℕ) (l : List Float). take j l) (f ∙ add-one n) u ∙ take-suc-set work n x l ∙ ap (λ (y : Float). take n work ++ (y ∷ [])) q ∙ sym (more true e);
    }

    pub raised-past : (m : ℕ) (us : List Float) → exceeds k K v (get_or X (get_or kept i 0) []) ≡ false → us ≡ work → m ≡ n → Raised X k K v kept work₀ us m (i + 1)
    raised-past m us e u f = record {
      few = omega (arith, r.few);
      as_long = ap length u ∙ r.as_long;
      back = ap (drop (length X)) u ∙ r.back;
      front = ap₂ (λ (j : ℕ) (l : List Float). take j l) f u ∙ none (take n work) ∙ sym (more false e);
    }
      where
        none : (l : List Float) → l ≡ l ++ []
        none [] = refl
        none (x ∷ l) = ap (λ (m : List Float). x ∷ m) (none l)

  -- all of them: no other row exceeds v
  raised-end : (c : ℕ) {marks : List ℕ} → Sound c X → c ≤ 32 → length K ≡ c → Marked X k v kept marks → length kept ≤ i → i ≤ length kept → (n ≤ length X) × (take n work ≡ tops_above X k K v) × (drop (length X) work ≡ drop (length X) work₀)
  unfolding tops_above rows_kept
  raised-end c {marks} sound narrow wide w h g = (
    omega (arith, r.few, marked-few c k X sound narrow w),
    r.front ∙ ap (λ (l : List ℕ). map (top_at X k K) (those (λ g. exceeds k K v (get_or X g [])) l)) (take_all i kept h ∙ w.stay)
        ∙ ap (map (top_at X k K)) (those-narrow (λ g. ltb g (length X)) (λ g. leb k (size (columns_of 32 (mark_of (λ x. smaller v x) (get_or X g []))))) (λ g. exceeds k K v (get_or X g [])) (tabulate (length X) (λ g. g)) some (numbers-inside (length X)))
        ∙ sym (map-map (λ row. k_max k K row) (λ g. get_or X g []) (those (λ g. exceeds k K v (get_or X g [])) (tabulate (length X) (λ g. g))))
        ∙ ap (map (λ row. k_max k K row)) (sym (those-map (λ g. get_or X g []) (exceeds k K v) (tabulate (length X) (λ g. g))) ∙ ap (those (exceeds k K v)) (rows_all X)),
    r.back,
  )
    where
      some : (g : ℕ) → T (ltb g (length X)) → T (exceeds k K v (get_or X g [])) → T (leb k (size (columns_of 32 (mark_of (λ x. smaller v x) (get_or X g [])))))
      some g l t = row-some c k (λ x. smaller v x) narrow K wide (get_or X g []) (sound-length c (get_or X g []) (all_get_d (sound_row c) X g [] (ltb→lt g (length X) l) sound)) t

      map-map : {A B C : Type 0} (f : B → C) (e : A → B) (l : List A) → map f (map e l) ≡ map (λ x. f (e x)) l
      map-map f e [] = refl
      map-map f e (x ∷ l) = ap (λ m. f (e x) ∷ m) (map-map f e l)

pub raised-done : (s : ℕ) {t : List Float} {rows cols k : ℕ} {v : Float} {kept marks : List ℕ} {work₀ work : List Float} {n i : ℕ} → CheckedTable t rows cols k → Marked (rows_of rows cols t) k v kept marks → Raised (rows_of rows cols t) k (columns_of cols s) v kept work₀ work n i
    → length marks ≤ i → i ≤ length marks → (n ≤ rows) × (take n work ≡ tops_above (rows_of rows cols t) k (columns_of cols s) v) × (drop rows work ≡ drop rows work₀)
raised-done s {t} {rows} {cols} {k} {v} {kept} {marks} {work₀} {work} {n} {i} r w d h g =
    let sound = rows_of-sound rows cols t r.full r.finitely in
    let even = marked-even cols k (rows_of rows cols t) sound r.cols-most w in
    subst (λ (m : ℕ). (n ≤ m) × (take n work ≡ tops_above (rows_of rows cols t) k (columns_of cols s) v) × (drop m work ≡ drop m work₀)) (rows_of-length rows cols t)
    (raised-end d cols sound r.cols-most (columns_of-length cols s) w (omega (arith, even)) (omega (arith, even)))

-- ---- the quantile

-- a value that is not above v is not above w
above-those : {A : Type 0} (r p : A → Bool) (f : A → Float) (v w : ℕ) (xs : List A) → v ≤ w → ((x : A) → T (r x) → ltb v (key (f x)) ≡ p x) → T (all r xs)
    → above w (map f (those p xs)) ≡ above w (map f xs)
unfolding those count all
above-those r p f v w [] h g t = refl
above-those r p f v w (x ∷ xs) h g t = go (p x) (g x (and_left (r x) (all r xs) t)) (above-those r p f v w xs h g (and_right (r x) (all r xs) t))
  where
    go : (b : Bool) → ltb v (key (f x)) ≡ b → above w (map f (those p xs)) ≡ above w (map f xs) → above w (map f (cond b (x ∷ those p xs) (those p xs))) ≡ bit (ltb w (key (f x))) + above w (map f xs)
    go true e ih = omega (arith, ih)
    go false e ih = omega (arith, ih, ap bit (le-ltb w (key (f x)) (omega (arith, ltb-false v (key (f x)) e))))

module _ (n k e : ℕ) (X : List (List Float)) (sound : Sound n X) (pos : 0 < k) (K : Columns) (h : length K ≡ n) (wide : k ≤ size K) (v : Float) (l : T (low v)) (many : e < count (exceeds k K v) X) where
  few : e < length X
  few = omega (arith, many, count-length (exceeds k K v) X)

  pub part-finite : Finite (tops_above X k K v)
  unfolding tops_above
  part-finite = tops-finite n k (those (exceeds k K v) X) K (those-all (exceeds k K v) (sound_row n) X sound)

  pub part_length : length (tops_above X k K v) ≡ count (exceeds k K v) X
  unfolding tops_above
  part_length = length-map (those (exceeds k K v) X) (λ row. k_max k K row) ∙ those-length (exceeds k K v) X

  same_above : (w : ℕ) → key v ≤ w → above w (tops_above X k K v) ≡ count (λ row. ltb w (key (k_max k K row))) X
  unfolding tops_above
  same_above w g = above-those (sound_row n) (exceeds k K v) (λ row. k_max k K row) (key v) w X g (k_max-exceeds n k K h pos wide v l) sound ∙ count_map (λ row. k_max k K row) (λ x. ltb w (key x)) X

  abbrev c : Float
  c = critical_value k e X K

  abbrev m : Float
  m = mth_smallest (length (tops_above X k K v) - e) (tops_above X k K v)

  whole-law : (w : ℕ) → (w < key (critical_value k e X K)) ↔ (e < count (λ row. ltb w (key (k_max k K row))) X)
  whole-law w = critical_value-law n k e X sound pos few K w

  part-law : (w : ℕ) → (w < key (mth_smallest (length (tops_above X k K v) - e) (tops_above X k K v))) ↔ (e < above w (tops_above X k K v))
  part-law w = mth_smallest-above (length (tops_above X k K v)) e (tops_above X k K v) part-finite refl (omega (arith, part_length)) w

  whole-high : key v < key c
  whole-high = (exceed-law n k K h pos wide v l e X sound few).1 many

  part-high : key v < key m
  part-high = (part-law (key v)).1 (omega (arith, (whole-law (key v)).0 whole-high, same_above (key v) (omega arith)))

  at_most : key m ≤ key c
  at_most = not-below (key c) (key m) (λ g. let b : key c < key c = (whole-law (key c)).1 (omega (arith, (part-law (key c)).0 g, same_above (key c) (omega (arith, whole-high)))) in omega arith)

  at_least : key c ≤ key m
  at_least = not-below (key m) (key c) (λ g. let b : key m < key m = (part-law (key m)).1 (omega (arith, (whole-law (key m)).0 g, same_above (key m) (omega (arith, part-high)))) in omega arith)

  pub part-is : mth_smallest (length (tops_above X k K v) - e) (tops_above X k K v) ≡ critical_value k e X K
  unfolding critical_value
  part-is =
      let q : key m ≡ key c = omega (arith, at_most, at_least) in
      sym (mth_smallest-plain (length (tops_above X k K v) - e) (tops_above X k K v))
      ∙ with_plus_zero-same m c (mth_smallest-keeps finite zero-finite (length (tops_above X k K v) - e) (tops_above X k K v) part-finite) (critical_value-finite n k e X K sound) q
      ∙ mth_smallest-plain (length X - e) (tops k X K)

-- the same of a checked table, with the values in the first places of the work buffer
module _ {t : List Float} {rows cols k e s : ℕ} (r : CheckedTable t rows cols k) (wide : k ≤ size (columns_of cols s)) (inside : s < 2 ^ cols) {v : Float} {kept marks : List ℕ} (w : Marked (rows_of rows cols t) k v kept marks)
    (many : e < holding k s marks) (n : ℕ) (work : List Float) (front : take n work ≡ tops_above (rows_of rows cols t) k (columns_of cols s) v) (room : n ≤ length work) where
  sound : Sound cols (rows_of rows cols t)
  sound = rows_of-sound rows cols t r.full r.finitely

  more-than : e < count (exceeds k (columns_of cols s) v) (rows_of rows cols t)
  more-than = omega (arith, marked-count cols k (rows_of rows cols t) sound r.cols-most w s inside)

  as_many : n ≡ length (tops_above (rows_of rows cols t) k (columns_of cols s) v)
  as_many = sym (length-take-le n work room) ∙ ap length front

  pub raised-enough : e < n
  raised-enough = omega (arith, part_length cols k e (rows_of rows cols t) sound r.k-some (columns_of cols s) (columns_of-length cols s) wide v w.floor more-than, as_many, more-than)

  pub raised-rank : T (all finite (take n work)) × (0 < n - e) × (n - e ≤ length (take n work))
  raised-rank = (
    rw front (part-finite cols k e (rows_of rows cols t) sound r.k-some (columns_of cols s) (columns_of-length cols s) wide v w.floor more-than),
    omega (arith, raised-enough),
    omega (arith, length-take-le n work room),
  )

  pub raised_is : {x : Float} → x ≡ mth_smallest (n - e) (take n work) → x ≡ critical_value k e (rows_of rows cols t) (columns_of cols s)
  raised_is q = q ∙ ap₂ (λ (m : ℕ) (l : List Float). mth_smallest (m - e) l) as_many front
      ∙ part-is cols k e (rows_of rows cols t) sound r.k-some (columns_of cols s) (columns_of-length cols s) wide v w.floor more-than
