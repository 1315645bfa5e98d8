-- Why the ranks that are handed out from the last row down are the ranks of the column.
--   ranks                 how many places stand no higher than v, counted along the order
--   Rank                  what is known of the rank that was handed out last
--   after                 a row stands at place i of the order or later
--   Walk, walk-..         the ranks of the rows from place i of the order on are put into column j; Wander: with what that rests on
--   row-.., entry-..      the next row, and the place of its entry
use Prim.Native.Nat.{ℕ, zero, suc, ◌+◌, ◌-◌, ◌*◌, ◌/◌, ◌%◌, ◌≤◌, ◌<◌}
use native.Mathlib.Omega.{arith}
use native.Mathlib.Decide.{ℕ_discrete}
use native.Mathlib.Nat.{div-add-mod', div-lt_iff_lt-mul}
use mathlib.Core.Path.{◌≡◌, refl, sym, ap, ap₂, subst, ◌∙◌}
use mathlib.Core.Bool.{Bool, true, false, cond, ◌&&◌}
use mathlib.Core.List.{List, ◌∷◌}
use lib.ListN.{length, get_or, set, drop, length-set, drop_of_length-le}
use lib.Seq.{drop-cons, get_or-set_same, get_or-set_other}
use lib.Dec.{T, leb, ltb, eqb, eqb_refl}
use lib.Arith.{digits_div, digits_mod}
use lib.Ieee.{Float, nan}
use borrow.Author.Tests.{lt-ltb, le-leb, lt-leb, eq-eqb, ne_eqb}
use Rattle.order.specs.Counting.{bit, count, count_below}
use Rattle.order.specs.Lists.{tabulate}
use Rattle.order.specs.Places.{place}
use Rattle.order.proofs.Counts.{count_below-same, count_below-list, count-some, count-length}
use Rattle.order.proofs.Lists.{tabulate-length, tabulate-get_d}
use Rattle.balance.specs.Balance.{whole}
use Rattle.sorting.specs.Sorting.{key_of, Sorted}
use Rattle.sorting.proofs.Moves.{moved-rows, numbered}
use Rattle.ranking.specs.Internal.{places_in, ranked_by, Put, Ordered}
use Rattle.ranking.proofs.Ranked.{inside}

-- a test that holds of the first numbers alone
count-first : (n m : ℕ) (p : ℕ → Bool) → m ≤ n → ((i : ℕ) → i < m → p i ≡ true) → ((i : ℕ) → m ≤ i → i < n → p i ≡ false) → count_below n p ≡ m
unfolding count_below
count-first zero m p l h g = omega arith
count-first (suc n) m p l h g = go (ℕ_discrete m (suc n)) (λ k. count-first n m p k h (λ i a b. g i a (omega arith))) (λ e. count-first n n p (omega arith) (λ i a. h i (omega arith)) (λ i a b. absurd (omega arith)))
  where
    go : Dec (m ≡ suc n) → (m ≤ n → count_below n p ≡ m) → (m ≡ suc n → count_below n p ≡ n) → count_below n p + bit (p n) ≡ m
    go (yes e) some all = omega (arith, all e, ap bit (h n (omega arith)))
    go (no e) some all = omega (arith, some (omega (arith, e)), ap bit (g n (omega (arith, e)) (omega arith)))

-- ---- ranks along the order

module _ (places order : List ℕ) (s : Sorted places order) (even : length order ≡ length places) where
  pub ranks : (v : ℕ) → count (λ q. leb q v) places ≡ count_below (length places) (λ i. leb (key_of places (get_or order i 0)) v)
  ranks v =
      let ids = tabulate (length places) (λ r. r) in
      let test : ℕ → Bool = λ r. leb (key_of places r) v in
      sym (count_below-list (λ q. leb q v) places 0)
      ∙ sym (count_below-same (length places) (λ i. leb (key_of places (get_or ids i 0)) v) (λ i. leb (get_or places i 0) v) (λ i h. ap (λ (r : ℕ). leb (key_of places r) v) (tabulate-get_d (length places) (λ r. r) i 0 h)))
      ∙ ap (λ (n : ℕ). count_below n (λ i. leb (key_of places (get_or ids i 0)) v)) (sym (tabulate-length (length places) (λ r. r)))
      ∙ count_below-list test ids 0
      ∙ sym (s.every.same test)
      ∙ sym (count_below-list test order 0)
      ∙ ap (λ (n : ℕ). count_below n (λ i. leb (key_of places (get_or order i 0)) v)) even

  rises-to : (i j : ℕ) → i ≤ j → j < length places → key_of places (get_or order i 0) ≤ key_of places (get_or order j 0)
  rises-to i j h k = go (ℕ_discrete i j)
    where
      go : Dec (i ≡ j) → key_of places (get_or order i 0) ≤ key_of places (get_or order j 0)
      go (yes e) = omega (arith, ap (λ (n : ℕ). key_of places (get_or order n 0)) e)
      go (no e) = s.rises i j (omega (arith, e)) (omega (arith, even))

  -- all that stand no higher are those up to i, where the next one stands higher
  stands : (i : ℕ) → i < length places → (i + 1 < length places → key_of places (get_or order i 0) < key_of places (get_or order (i + 1) 0)) → count (λ q. leb q (key_of places (get_or order i 0))) places ≡ i + 1
  stands i h up = ranks (key_of places (get_or order i 0)) ∙ count-first (length places) (i + 1) (λ m. leb (key_of places (get_or order m 0)) (key_of places (get_or order i 0))) (omega arith)
      (λ m l. le-leb (key_of places (get_or order m 0)) (key_of places (get_or order i 0)) (rises-to m i (omega arith) h))
      (λ m l k. lt-leb (key_of places (get_or order m 0)) (key_of places (get_or order i 0)) (omega (arith, up (omega arith), rises-to (i + 1) m l k)))

  -- what is known when the rows from place i on have their ranks
  pub record Rank (i above rank : ℕ) : Type 0 where
    pub last : i ≡ length places → rank ≡ length places
    pub next : i < length places → (above ≡ key_of places (get_or order i 0)) × (rank ≡ count (λ q. leb q above) places)

  rank-next : (i above rank : ℕ) → i < length places → Rank (i + 1) above rank → cond (eqb (key_of places (get_or order i 0)) above) rank (i + 1) ≡ count (λ q. leb q (key_of places (get_or order i 0))) places
  rank-next i above rank h r = go (ℕ_discrete (i + 1) (length places)) (ℕ_discrete (key_of places (get_or order i 0)) above)
    where
      either : (b : Bool) (x y : ℕ) → x ≡ y → cond b x y ≡ y
      either true x y e = e
      either false x y e = refl

      go : Dec (i + 1 ≡ length places) → Dec (key_of places (get_or order i 0) ≡ above) → cond (eqb (key_of places (get_or order i 0)) above) rank (i + 1) ≡ count (λ q. leb q (key_of places (get_or order i 0))) places
      go (yes e) t = either (eqb (key_of places (get_or order i 0)) above) rank (i + 1) (r.last e ∙ sym e) ∙ sym (stands i h (λ l. absurd (omega arith)))
      go (no e) (yes t) = rw (eq-eqb (key_of places (get_or order i 0)) above t) ((r.next (omega (arith, e))).1 ∙ ap (λ (v : ℕ). count (λ q. leb q v) places) (sym t))
      go (no e) (no t) = rw (ne_eqb (key_of places (get_or order i 0)) above t) (sym (stands i h (λ l. omega (arith, t, (r.next (omega (arith, e))).0, rises-to i (i + 1) (omega arith) l))))

-- ---- one column

module _ (columns j : ℕ) (places order : List ℕ) (t : List Float) (o : Ordered t columns j places order) where
  -- row h has its rank: it stands at place i of the order or later
  pub after : ℕ → ℕ → Bool
  after i h = ltb 0 (count (λ x. eqb x h) (drop i order))

  abbrev hit : ℕ → ℕ → Bool
  hit i p = eqb (p % columns) j && after i (p / columns)

  abbrev shown : Bool → ℕ → Float
  shown b p = cond b (ranked_by places (get_or t p nan)) (get_or t p nan)

  pub record Walk (i above rank : ℕ) (u : List Float) : Type 0 where
    pub put : (p : ℕ) → p < length t → get_or u p nan ≡ cond (eqb (p % columns) j && after i (p / columns)) (ranked_by places (get_or t p nan)) (get_or t p nan)
    pub even : length u ≡ length t
    pub ranked : Rank places order o.sorted o.even i above rank

  and-false : (b : Bool) → (b && false) ≡ false
  and-false true = refl
  and-false false = refl

  and-true : (b : Bool) → (b && true) ≡ b
  and-true true = refl
  and-true false = refl

  none_after : (h : ℕ) → after (length order) h ≡ false
  unfolding after count
  none_after h = rw (drop_of_length-le order {i = length order} (omega arith)) refl

  pub walk_start : (above : ℕ) → Walk (length order) above (length order) t
  walk_start above = record {
    put = λ p h. sym (ap (λ (b : Bool). shown (eqb (p % columns) j && b) p) (none_after (p / columns)) ∙ ap (λ (b : Bool). shown b p) (and-false (eqb (p % columns) j)));
    even = refl;
    ranked = record { last = λ e. o.even; next = λ h. absurd (omega (arith, o.even)) };
  }

  -- the row at place i is one of the table
  row_lt : (i : ℕ) → i < length order → get_or order i 0 < length places
  row_lt i h = (moved-rows (numbered places {n = length places} refl refl o.most) o.sorted.every (o.even ∙ sym (tabulate-length (length places) (λ r. r)))).within i h

  row_inside : (i : ℕ) → i < length order → get_or order i 0 * columns + j < length t
  row_inside i h = inside (length t) (length places) columns (get_or order i 0) j o.full (row_lt i h) o.within

  after_more : (i h : ℕ) → i < length order → after i h ≡ ltb 0 (bit (eqb (get_or order i 0) h) + count (λ x. eqb x h) (drop (i + 1) order))
  unfolding after count
  after_more i h l = ap (λ (xs : List ℕ). ltb 0 (count (λ x. eqb x h) xs)) (drop-cons order i 0 l ∙ ap (λ (n : ℕ). get_or order i 0 ∷ drop n order) (let e : suc i ≡ i + 1 = omega arith in e))

  here : (i : ℕ) → i < length order → hit i (get_or order i 0 * columns + j) ≡ true
  here i l = rw (digits_mod (get_or order i 0) o.within, digits_div (get_or order i 0) o.within, eq-eqb j j refl) (after_more i (get_or order i 0) l ∙ lt-ltb 0 (bit (eqb (get_or order i 0) (get_or order i 0)) + count (λ x. eqb x (get_or order i 0)) (drop (i + 1) order)) (omega (arith, ap bit (eq-eqb (get_or order i 0) (get_or order i 0) refl))))

  other : (i p : ℕ) → i < length order → (p ≡ get_or order i 0 * columns + j → ⊥) → hit i p ≡ hit (i + 1) p
  unfolding after
  other i p l n = go (ℕ_discrete (p % columns) j) (ℕ_discrete (get_or order i 0) (p / columns))
    where
      go : Dec (p % columns ≡ j) → Dec (get_or order i 0 ≡ p / columns) → (eqb (p % columns) j && ltb 0 (count (λ x. eqb x (p / columns)) (drop i order))) ≡ (eqb (p % columns) j && ltb 0 (count (λ x. eqb x (p / columns)) (drop (i + 1) order)))
      go (yes a) (yes b) = absurd (n (sym (div-add-mod' p columns) ∙ ap₂ (λ (x y : ℕ). x * columns + y) (sym b) a))
      go (yes a) (no b) = ap (λ (c : Bool). eqb (p % columns) j && c) (after_more i (p / columns) l ∙ ap (λ (m : ℕ). ltb 0 (m + count (λ x. eqb x (p / columns)) (drop (i + 1) order))) (ap bit (ne_eqb (get_or order i 0) (p / columns) b)) ∙ ap (ltb 0) (let e : 0 + count (λ x. eqb x (p / columns)) (drop (i + 1) order) ≡ count (λ x. eqb x (p / columns)) (drop (i + 1) order) = omega arith in e))
      go (no a) b = rw (ne_eqb (p % columns) j a) refl

  -- the place of the entry
  entry_place : (i : ℕ) → i < length order → place (get_or t (get_or order i 0 * columns + j) nan) ≡ key_of places (get_or order i 0)
  unfolding places_in
  entry_place i h = sym (ap (λ (xs : List ℕ). get_or xs (get_or order i 0) 0) o.placed ∙ tabulate-get_d (length places) (λ r. place (get_or t (r * columns + j) nan)) (get_or order i 0) 0 (row_lt i h))

  module _ {i above rank : ℕ} {u : List Float} (w : Walk (i + 1) above rank u) (h : i < length order) where
    rank_is : (r : ℕ) → r ≡ cond (eqb (key_of places (get_or order i 0)) above) rank (i + 1) → r ≡ count (λ q. leb q (key_of places (get_or order i 0))) places
    rank_is r e = e ∙ rank-next places order o.sorted o.even i above rank (omega (arith, o.even)) w.ranked

    walk_turn : (r : ℕ) → r ≡ cond (eqb (key_of places (get_or order i 0)) above) rank (i + 1) → (v : Float) → v ≡ whole r → Walk i (key_of places (get_or order i 0)) r (set u (get_or order i 0 * columns + j) v)
    walk_turn r e v f = record {
      put = λ p l. go p l (ℕ_discrete p (get_or order i 0 * columns + j));
      even = length-set u (get_or order i 0 * columns + j) v ∙ w.even;
      ranked = record { last = λ z. absurd (omega (arith, o.even)); next = λ l. (refl, rank_is r e) };
    }
      where
        go : (p : ℕ) → p < length t → Dec (p ≡ get_or order i 0 * columns + j) → get_or (set u (get_or order i 0 * columns + j) v) p nan ≡ shown (hit i p) p
        go p l (yes q) = rw q (get_or-set_same u (get_or order i 0 * columns + j) v nan (omega (arith, w.even, row_inside i h)) ∙ f ∙ ap whole (rank_is r e ∙ ap (λ (z : ℕ). count (λ q. leb q z) places) (sym (entry_place i h))) ∙ sym (ap (λ (b : Bool). shown b (get_or order i 0 * columns + j)) (here i h)))
        go p l (no q) = get_or-set_other u (get_or order i 0 * columns + j) p v nan q ∙ w.put p l ∙ sym (ap (λ (b : Bool). shown b p) (other i p h q))

  -- one row down
  module _ {i above rank : ℕ} {u : List Float} (w : Walk i above rank u) (some : 0 < i) (h : i ≤ length order) (r : ℕ)
      (e : r ≡ cond (eqb (key_of places (get_or order (i - 1) 0)) above) rank (i - 1 + 1)) where
    down : Walk (i - 1 + 1) above rank u
    down = let q : i ≡ i - 1 + 1 = omega arith in subst (λ (n : ℕ). Walk n above rank u) q w

    pub walk-rank : r ≤ length places
    walk-rank = omega (arith, rank_is down (omega arith) r e, count-length (λ q. leb q (key_of places (get_or order (i - 1) 0))) places)

    pub walk-down : (v : Float) → v ≡ whole r → Walk (i - 1) (key_of places (get_or order (i - 1) 0)) r (set u (get_or order (i - 1) 0 * columns + j) v)
    walk-down v f = walk_turn down (omega arith) r e v f

  every-row : (h : ℕ) → h < length places → after 0 h ≡ true
  unfolding after
  every-row h l =
      let ids = tabulate (length places) (λ r. r) in
      lt-ltb 0 (count (λ x. eqb x h) order)
      (omega (arith, o.sorted.every.same (λ x. eqb x h), count-some (λ x. eqb x h) ids h 0 (omega (arith, tabulate-length (length places) (λ r. r))) (subst (λ (x : ℕ). T (eqb x h)) (sym (tabulate-get_d (length places) (λ r. r) h 0 l)) (eqb_refl h))))

  pub walk_end : {i above rank : ℕ} {u : List Float} → Walk i above rank u → i ≤ 0 → Put columns j places t u
  walk_end {i = i} w z = record { told = λ p l. w.put p l ∙ ap (λ (b : Bool). shown (eqb (p % columns) j && b) p) (let e : i ≡ 0 = omega arith in ap (λ (n : ℕ). after n (p / columns)) e ∙ every-row (p / columns) (rows p l)) ∙ ap (λ (b : Bool). shown b p) (and-true (eqb (p % columns) j)) }
    where
      rows : (p : ℕ) → p < length t → p / columns < length places
      rows p l = let q : p < length places * columns = omega (arith, o.full) in (div-lt_iff_lt-mul (let s : 0 < columns = omega (arith, o.within) in s)).1 q

-- the same with what it rests on
pub record Wander (columns j : ℕ) (places order : List ℕ) (t : List Float) (i above rank : ℕ) (u : List Float) : Type 0 where
  pub ordered : Ordered t columns j places order
  pub walk : Walk columns j places order t ordered i above rank u

-- the row before place i, and where its entry stands
module _ {columns j : ℕ} {places order : List ℕ} {t : List Float} {i above rank : ℕ} {u : List Float} (w : Wander columns j places order t i above rank u) (some : 0 < i) (h : i ≤ length order) where
  pub row-there : get_or order (i - 1) 0 < length places
  row-there = row_lt columns j places order t w.ordered (i - 1) (omega arith)

  pub entry-there : get_or order (i - 1) 0 * columns + j < length u
  entry-there = omega (arith, row_inside columns j places order t w.ordered (i - 1) (omega arith), w.walk.even)
