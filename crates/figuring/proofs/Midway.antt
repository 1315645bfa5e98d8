-- The pass while it goes on, with the columns of the mask `passed` behind it: the first s of the order.
--   order_row, order-listed, order-fits     the order is that of the observed row, there are as many columns as are live, and they are those of the table
--   order-part, few-live           what making it asks for: the mask fits the row, and there are few enough columns
--   Midway                         what holds before each column
--   midway_start, midway_end       before the first column, and after the last
--   midway-counted, midway-tied    one column more, with a count made for it, and with none since its value is no smaller than the last one with a count
--   midway-raising                 what the count asks for
--   column_fits, column-32, mask-room     the column is one of the table, and its bit fits the mask
use Prim.Native.Nat.{ℕ, zero, suc, ◌+◌, ◌-◌, ◌/◌, ◌^◌, ◌≤◌, ◌<◌, max}
use native.Mathlib.Omega.{arith}
use mathlib.Core.Path.{◌≡◌, refl, sym, ap, ap₂, ◌∙◌, subst}
use mathlib.Core.Bool.{true, false}
use mathlib.Core.List.{List, [], ◌∷◌, ◌++◌, map}
use lib.ListN.{length, get_or, take, drop, set, replicate, length-set, length-replicate, take-append-drop}
use lib.Seq.{take_at, drop_at, drop-drop, get_or-take, get_or-drop, take-set-lt, drop-set-lt, length-take-le}
use lib.Dec.{T, ltb}
use lib.Ieee.{Float, nan, inf}
use borrow.Author.Tests.{ltb-false}
use Rattle.order.specs.Order.{finite, smaller}
use Rattle.order.specs.Counting.{all}
use Rattle.order.specs.Lists.{rows_of, padded}
use Rattle.order.proofs.Counts.{all_get_d}
use Rattle.order.proofs.Booleans.{never, true-T}
use Rattle.order.proofs.Infinities.{all-below}
use Rattle.order.proofs.Keys.{key, smaller-key}
use Rattle.order.proofs.Lists.{rows_of-length, padded-length}
use Rattle.order.proofs.Rows.{Sound, sound_row, sound-length, sound-finite, rows_of-sound}
use Rattle.columns.specs.Columns.{Columns, size, ◌∖◌, columns_of}
use Rattle.columns.proofs.Sets.{◌⊆◌, none, more, ⊆-at, ⊆-refl, size-length}
use Rattle.columns.proofs.Masks.{columns_of-length}
use Rattle.columns.proofs.Remaining.{left-all}
use Rattle.masks.proofs.Parts.{row-length}
use Rattle.adjustment.specs.Passes.{top_column, needed, k_max_from, k_max_pass}
use Rattle.figuring.specs.Internal.{Passable, Raising, order_from, rows_hit}
use Rattle.adjustment.proofs.Needed.{needed-falls}
use Rattle.figuring.proofs.PassOrder.{order-length, order-places, rows-hit, Passed, passed_none, rest-length, place-fits, value-finite, bit-fits, next-set, next-passed, next-rest, next-left}

pub record Midway (t : List Float) (rows columns k observed live : ℕ) (order : List ℕ) (n : ℕ) (figures : List ℕ) (passed figure : ℕ) (last : Float) (s : ℕ) : Type 0 where
  pub ready : Passable t rows columns k observed live
  pub held : k ≤ size (columns_of columns live)
  pub passing : Passed columns live passed
  pub room : length figures ≡ 32
  pub beyond : drop columns figures ≡ replicate (32 - columns) 0
  pub onward : k_max_from (size (columns_of columns live ∖ columns_of columns passed)) k (rows_of rows columns t) (columns_of columns live) (get_or (rows_of rows columns t) observed []) (columns_of columns passed) figure (take columns figures)
      ≡ k_max_pass k (rows_of rows columns t) (columns_of columns live) observed
  pub settled : 0 < size (columns_of columns live ∖ columns_of columns passed) → (x : Float) → T (finite x) → smaller x last ≡ false → needed k (rows_of rows columns t) (columns_of columns live) (columns_of columns passed) x ≤ figure
  pub listed : length (take n order) ≡ n
  pub left : size (columns_of columns live ∖ columns_of columns passed) ≡ n - s
  pub ahead : drop s (take n order) ≡ order_from (n - s) (get_or (rows_of rows columns t) observed []) (columns_of columns live ∖ columns_of columns passed)

-- ---- before the first column

none_passed : (n s : ℕ) → columns_of n 0 ≡ map (λ _. false) (columns_of n s)
unfolding columns_of
none_passed zero s = refl
none_passed (suc n) s = ap (λ (K : Columns). false ∷ K) (none_passed n (s / 2))

module _ {t : List Float} {rows columns k observed live : ℕ} (r : Passable t rows columns k observed live) where
  pub order-part : (seen : List Float) → seen ≡ get_or (rows_of rows columns t) observed [] → live < 2 ^ length seen
  order-part seen e = subst (λ (c : ℕ). live < 2 ^ c) (sym (row-length t rows columns k observed r.ready r.seen seen e)) r.live-fits

  pub few-live : (n : ℕ) → n ≡ size (columns_of columns live) → n ≤ 32
  few-live n e = omega (arith, size-length (columns_of columns live), columns_of-length columns live, r.ready.cols-most)

module _ {t : List Float} {rows columns k observed live : ℕ} (r : Passable t rows columns k observed live) (held : k ≤ size (columns_of columns live)) where
  fresh : (figures : List ℕ) → figures ≡ padded 32 0 (replicate columns rows)
      → k_max_from (size (columns_of columns live ∖ columns_of columns 0)) k (rows_of rows columns t) (columns_of columns live) (get_or (rows_of rows columns t) observed []) (columns_of columns 0) 0 (take columns figures)
      ≡ k_max_pass k (rows_of rows columns t) (columns_of columns live) observed
  unfolding k_max_pass
  fresh figures e =
      ap (λ (R : Columns). k_max_from (size (columns_of columns live ∖ R)) k (rows_of rows columns t) (columns_of columns live) (get_or (rows_of rows columns t) observed []) R 0 (take columns figures)) (none_passed columns live)
      ∙ ap₂ (λ (n : ℕ) (fs : List ℕ). k_max_from n k (rows_of rows columns t) (columns_of columns live) (get_or (rows_of rows columns t) observed []) (map (λ _. false) (columns_of columns live)) 0 fs) (ap size (left-all (columns_of columns live)))
      (ap (take columns) e ∙ take_at (replicate columns rows) (replicate (32 - length (replicate columns rows)) 0) columns (length-replicate columns rows)
      ∙ ap₂ (λ (n m : ℕ). replicate n m) (sym (columns_of-length columns live)) (sym (rows_of-length rows columns t)))

  row_at : T (sound_row columns (get_or (rows_of rows columns t) observed []))
  row_at = all_get_d (sound_row columns) (rows_of rows columns t) observed [] (omega (arith, rows_of-length rows columns t, r.seen)) (rows_of-sound rows columns t r.ready.full r.ready.finitely)

  module _ (order : List ℕ) (n : ℕ) (counted : n ≡ size (columns_of columns live)) (seen : List Float) (seen-is : seen ≡ get_or (rows_of rows columns t) observed [])
      (found : take (size (columns_of (length seen) live)) order
      ≡ order_from (size (columns_of (length seen) live)) seen
      (columns_of (length seen) live)) where
    pub order_row : take n order ≡ order_from n (get_or (rows_of rows columns t) observed []) (columns_of columns live)
    order_row =
        ap (λ (m : ℕ). take m order) (counted ∙ ap (λ (c : ℕ). size (columns_of c live)) (sym wide)) ∙ found
        ∙ ap₂ (λ (c : ℕ) (row : List Float). order_from (size (columns_of c live)) row (columns_of c live)) wide seen-is
        ∙ ap (λ (m : ℕ). order_from m (get_or (rows_of rows columns t) observed []) (columns_of columns live)) (sym counted)
      where
        wide : length seen ≡ columns
        wide = row-length t rows columns k observed r.ready r.seen seen seen-is

    pub order-fits : T (all (λ j. ltb j columns) (take n order))
    order-fits = subst (λ (cs : List ℕ). T (all (λ j. ltb j columns) cs)) (sym order_row) (subst (λ (c : ℕ). T (all (λ j. ltb j c) (order_from n row (columns_of columns live)))) wide
        (order-places row (sound-finite columns row row_at) n (columns_of columns live) (columns_of-length columns live ∙ sym wide) (sym counted)))
      where
        row : List Float
        row = get_or (rows_of rows columns t) observed []

        wide : length (get_or (rows_of rows columns t) observed []) ≡ columns
        wide = sound-length columns row row_at

    pub order-listed : length (take n order) ≡ n
    order-listed = ap length order_row ∙ order-length n (get_or (rows_of rows columns t) observed []) (columns_of columns live)

    pub midway_start : (figures : List ℕ) → figures ≡ padded 32 0 (replicate columns rows) → Midway t rows columns k observed live order n figures 0 0 (inf false) 0
    midway_start figures e = record {
      ready = r;
      held = held;
      passing = passed_none r.live-fits;
      room = ap length e ∙ padded-length 32 0 (replicate columns rows) (omega (arith, length-replicate columns rows, r.ready.cols-most));
      beyond = ap (drop columns) e ∙ drop_at (replicate columns rows) (replicate (32 - length (replicate columns rows)) 0) columns (length-replicate columns rows) ∙ ap (λ (m : ℕ). replicate (32 - m) 0) (length-replicate columns rows);
      onward = fresh figures e;
      settled = λ left x f s. absurd (never (smaller x (inf false)) s (true-T (smaller x (inf false)) (all-below x f)));
      listed = order-listed;
      left = ap size whole ∙ sym counted ∙ none;
      ahead = order_row ∙ ap₂ (λ (m : ℕ) (K : Columns). order_from m (get_or (rows_of rows columns t) observed []) K) none (sym whole);
    }
      where
        none : n ≡ n - 0
        none = omega arith

        whole : columns_of columns live ∖ columns_of columns 0 ≡ columns_of columns live
        whole = ap (λ (K : Columns). columns_of columns live ∖ K) (none_passed columns live) ∙ left-all (columns_of columns live)

-- ---- at a column

-- one column of the pass
one-column : (n k : ℕ) (X : List (List Float)) (live : Columns) (row : List Float) (R : Columns) (m : ℕ) (fs : List ℕ) (i f : ℕ) → i ≡ top_column (live ∖ R) row → f ≡ max m (needed k X live R (get_or row i nan))
    → k_max_from n k X live row (set R i true) f (set fs i f) ≡ k_max_from (suc n) k X live row R m fs
unfolding k_max_from
one-column n k X live row R m fs i f q e =
    ap₂ (λ (j g : ℕ). k_max_from n k X live row (set R j true) g (set fs j g)) q (e ∙ ap (λ (j : ℕ). max m (needed k X live R (get_or row j nan))) q)

-- none left
no-column : (n k : ℕ) (X : List (List Float)) (live : Columns) (row : List Float) (R : Columns) (m : ℕ) (fs : List ℕ) → n ≡ 0 → k_max_from n k X live row R m fs ≡ fs
unfolding k_max_from
no-column n k X live row R m fs z = ap (λ (j : ℕ). k_max_from j k X live row R m fs) z

grown : (R : Columns) (i : ℕ) → R ⊆ set R i true
grown [] i = none
grown (b ∷ R) zero = more (λ _. tt) (⊆-refl R)
grown (b ∷ R) (suc i) = more (λ t. t) (grown R i)

module _ {t : List Float} {rows columns k observed live : ℕ} {order : List ℕ} {n : ℕ} {figures : List ℕ} {passed figure : ℕ} {last : Float} {s : ℕ} (m : Midway t rows columns k observed live order n figures passed figure last s) where
  abbrev L : Columns
  L = columns_of columns live

  abbrev R : Columns
  R = columns_of columns passed

  abbrev row : List Float
  row = get_or (rows_of rows columns t) observed []

  sound : Sound columns (rows_of rows columns t)
  sound = rows_of-sound rows columns t m.ready.ready.full m.ready.ready.finitely

  own : T (sound_row columns (get_or (rows_of rows columns t) observed []))
  own = row_at m.ready m.held

  -- what is needed falls with what is passed and with a larger value
  falls : (Q : Columns) (x y : Float) → columns_of columns passed ⊆ Q → Q ⊆ columns_of columns live → 0 < size (columns_of columns live ∖ Q) → T (finite x) → T (finite y) → key x ≤ key y
      → needed k (rows_of rows columns t) (columns_of columns live) Q y ≤ needed k (rows_of rows columns t) (columns_of columns live) (columns_of columns passed) x
  falls Q x y = needed-falls k (rows_of rows columns t) L R Q x y (subst (λ (c : ℕ). Sound c (rows_of rows columns t)) (sym (columns_of-length columns live)) sound) m.ready.ready.k-some m.held

  module _ (h : s < n) where
    some : 0 < size (columns_of columns live ∖ columns_of columns passed)
    some = omega (arith, m.left)

    ahead_more : drop s (take n order) ≡ top_column (columns_of columns live ∖ columns_of columns passed) (get_or (rows_of rows columns t) observed [])
        ∷ order_from (n - (s + 1)) (get_or (rows_of rows columns t) observed []) (set (columns_of columns live ∖ columns_of columns passed) (top_column (columns_of columns live ∖ columns_of columns passed) (get_or (rows_of rows columns t) observed [])) false)
    unfolding order_from
    ahead_more = let e : n - s ≡ suc (n - (s + 1)) = omega arith in m.ahead ∙ ap (λ (c : ℕ). order_from c row (L ∖ R)) e

    -- the next column of the order is the one with the largest value
    top : get_or order s 0 ≡ top_column (columns_of columns live ∖ columns_of columns passed) (get_or (rows_of rows columns t) observed [])
    top = let e : s ≡ s + 0 = omega arith in sym (get_or-take n order s 0 h) ∙ ap (λ (c : ℕ). get_or (take n order) c 0) e ∙ sym (get_or-drop s (take n order) 0 0) ∙ ap (λ (l : List ℕ). get_or l 0 0) ahead_more

    pub column_fits : get_or order s 0 < columns
    column_fits = place-fits m.passing row own some (get_or order s 0) top

    pub column-32 : get_or order s 0 < 32
    column-32 = omega (arith, column_fits, m.ready.ready.cols-most)

    module _ (v : Float) (value : v ≡ get_or (get_or (rows_of rows columns t) observed []) (get_or order s 0) nan) where
      v-finite : T (finite v)
      v-finite = subst (λ (x : Float). T (finite x)) (sym value) (value-finite m.passing row own some (get_or order s 0) top)

      pub midway-raising : (counts : List ℕ) → ((s : ℕ) → s < length (take n order) → get_or counts s 0 ≡ rows_hit (rows_of rows columns t) (get_or (get_or (rows_of rows columns t) observed []) (get_or (take n order) s 0) nan) (drop s (take n order)))
          → Raising t rows columns k live passed v (get_or counts s 0)
      midway-raising counts tallied = record {
        ready = m.ready.ready;
        live-fits = m.ready.live-fits;
        passed-fits = m.passing.fits;
        inside = ⊆-at m.passing.inside;
        held = m.held;
        left = some;
        value = v-finite;
        bounded = tallied s (omega (arith, m.listed))
            ∙ ap₂ (λ (x : Float) (cs : List ℕ). rows_hit (rows_of rows columns t) x cs) (ap (λ (j : ℕ). get_or row j nan) (get_or-take n order s 0 h) ∙ sym value) m.ahead
            ∙ rows-hit row (sound-finite columns row own) (rows_of rows columns t) v (n - s) (L ∖ R) (subst (λ (c : ℕ). Sound c (rows_of rows columns t)) (sym wide) sound) v-finite (rest-length m.passing ∙ sym wide) m.left (omega arith);
      }
        where
          wide : length (get_or (rows_of rows columns t) observed []) ≡ columns
          wide = sound-length columns row own

      module _ (p : ℕ) (bit : p ≡ 2 ^ get_or order s 0) where
        pub mask-room : passed + p < 2 ^ columns
        mask-room = bit-fits m.passing row own some (get_or order s 0) top p bit

        abbrev R' : Columns
        R' = columns_of columns (passed + p)

        grows : columns_of columns (passed + p) ≡ set (columns_of columns passed) (get_or order s 0) true
        grows = next-set m.passing row own some (get_or order s 0) top p bit

        next : Passed columns live (passed + p)
        next = next-passed m.passing row own some (get_or order s 0) top p bit

        fewer : size (columns_of columns live ∖ columns_of columns (passed + p)) ≡ size (columns_of columns live ∖ columns_of columns passed) - 1
        fewer = next-left m.passing row own some (get_or order s 0) top p bit

        onward' : (figure' : ℕ) → figure' ≡ max figure (needed k (rows_of rows columns t) (columns_of columns live) (columns_of columns passed) v)
            → k_max_from (size (columns_of columns live ∖ columns_of columns (passed + p))) k (rows_of rows columns t) (columns_of columns live) (get_or (rows_of rows columns t) observed []) (columns_of columns (passed + p)) figure' (take columns (set figures (get_or order s 0) figure'))
            ≡ k_max_pass k (rows_of rows columns t) (columns_of columns live) observed
        onward' figure' e =
            let one : suc (size (L ∖ R) - 1) ≡ size (L ∖ R) = omega (arith, some) in
            ap (λ (c : ℕ). k_max_from c k (rows_of rows columns t) L row R' figure' (take columns (set figures (get_or order s 0) figure'))) fewer
            ∙ ap₂ (λ (Q : Columns) (fs : List ℕ). k_max_from (size (L ∖ R) - 1) k (rows_of rows columns t) L row Q figure' fs) grows (take-set-lt columns figures (get_or order s 0) figure' column_fits)
            ∙ one-column (size (L ∖ R) - 1) k (rows_of rows columns t) L row R figure (take columns figures) (get_or order s 0) figure' top (e ∙ ap (λ (x : Float). max figure (needed k (rows_of rows columns t) L R x)) value)
            ∙ ap (λ (c : ℕ). k_max_from c k (rows_of rows columns t) L row R figure (take columns figures)) one ∙ m.onward

        ahead' : drop (s + 1) (take n order) ≡ order_from (n - (s + 1)) (get_or (rows_of rows columns t) observed []) (columns_of columns live ∖ columns_of columns (passed + p))
        ahead' = sym (drop-drop 1 s (take n order)) ∙ ap (drop 1) ahead_more ∙ ap (λ (K : Columns). order_from (n - (s + 1)) row K) (sym (next-rest m.passing row own some (get_or order s 0) top p bit))

        midway-turn : (figure' : ℕ) (last' : Float) → figure' ≡ max figure (needed k (rows_of rows columns t) (columns_of columns live) (columns_of columns passed) v)
            → ((x : Float) → T (finite x) → smaller x last' ≡ false → needed k (rows_of rows columns t) (columns_of columns live) (columns_of columns passed) x ≤ figure')
            → Midway t rows columns k observed live order n (set figures (get_or order s 0) figure') (passed + p) figure' last' (s + 1)
        midway-turn figure' last' e after = record {
          ready = m.ready;
          held = m.held;
          passing = next;
          room = length-set figures (get_or order s 0) figure' ∙ m.room;
          beyond = drop-set-lt columns figures (get_or order s 0) figure' column_fits ∙ m.beyond;
          onward = onward' figure' e;
          settled = λ left x f u. omega (arith, after x f u, falls R' x x (subst (λ (K : Columns). R ⊆ K) (sym grows) (grown R (get_or order s 0))) next.inside left f f (omega arith));
          listed = m.listed;
          left = omega (arith, fewer, m.left);
          ahead = ahead';
        }

        module _ (figure' : ℕ) (last' : Float) where
          pub midway-counted : (r : ℕ) → r ≡ max figure (needed k (rows_of rows columns t) (columns_of columns live) (columns_of columns passed) v) → figure' ≡ r → last' ≡ v
              → Midway t rows columns k observed live order n (set figures (get_or order s 0) figure') (passed + p) figure' last' (s + 1)
          midway-counted r counted e q = midway-turn figure' last' (e ∙ counted)
              (λ x f u. omega (arith, counted, falls R v x (⊆-refl R) m.passing.inside some v-finite f (ltb-false (key x) (key v) (sym (smaller-key x v f v-finite) ∙ sym (ap (λ (l : Float). smaller x l) q) ∙ u))))

          pub midway-tied : smaller v last ≡ false → figure' ≡ figure → last' ≡ last → Midway t rows columns k observed live order n (set figures (get_or order s 0) figure') (passed + p) figure' last' (s + 1)
          midway-tied u e q = midway-turn figure' last' (omega (arith, m.settled some v v-finite u)) (λ x f w. omega (arith, m.settled some x f (sym (ap (λ (l : Float). smaller x l) q) ∙ w)))

  pub midway_end : n ≤ s → figures ≡ padded 32 0 (k_max_pass k (rows_of rows columns t) (columns_of columns live) observed)
  midway_end e = sym (take-append-drop columns figures) ∙ ap₂ (λ (x y : List ℕ). x ++ y) full (m.beyond ∙ ap (λ (c : ℕ). replicate (32 - c) 0) (sym (ap length (sym full) ∙ length-take-le columns figures (omega (arith, m.room, m.ready.ready.cols-most)))))
    where
      full : take columns figures ≡ k_max_pass k (rows_of rows columns t) (columns_of columns live) observed
      full = sym (no-column (size (L ∖ R)) k (rows_of rows columns t) L row R figure (take columns figures) (omega (arith, m.left))) ∙ m.onward
