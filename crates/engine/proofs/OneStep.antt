-- One step from a state that can be stepped, by masks.
--   in-progress             what such a state is known to be
--   bar-start, bar-next     the critical value of step 1, and of a later step, with its set and row
--   ready                   what holds before the step
--   row-there, column_fits, record_is     the row and the column that set it, and the record
--   walk_start, walk-held   what holds where the put-back walk begins
--   new-fits, step_is       the state after the step, and its record
--   stops-..                whether the step ends the run
--   next-can                a state that goes on after a step can be stepped again
use Prim.Native.Nat.{ℕ, zero, suc, ◌+◌, ◌-◌, ◌^◌, ◌≤◌, ◌<◌}
use native.Mathlib.Omega.{arith}
use mathlib.Core.Path.{◌≡◌, refl, sym, ap, ap₂, ◌∙◌, subst}
use mathlib.Core.Bool.{Bool, true, false, not, ◌&&◌, ◌||◌}
use mathlib.Core.List.{List, [], ◌∷◌, map}
use lib.ListN.{length, get_or}
use lib.Dec.{T, ltb, eqb}
use lib.Ieee.{Float}
use borrow.Author.Tests.{eq-eqb, ne_eqb, lt-ltb, le-ltb}
use Rattle.order.specs.Lists.{rows_of}
use Rattle.order.proofs.Booleans.{or-holds, or-passes}
use Rattle.order.proofs.Lists.{rows_of-length}
use Rattle.order.proofs.Rows.{sound-length, rows_of-sound}
use Rattle.refusals.proofs.Limits.{positive}
use Rattle.columns.specs.Columns.{Columns, size, ◌∪◌, ◌∩◌, ◌∖◌, over, equal_to, lowest, choose, columns_of, mask_of}
use Rattle.columns.proofs.Sets.{has, ◌⊆◌, ⊆-by, ⊆-at, has-∖, has-∩, length-∪}
use Rattle.columns.proofs.Masks.{mask_of-columns_of, columns_of-mask_of, mask_of-lt, mask-join, mask-none, columns_of-minus, minus-fits}
use Rattle.method.specs.Method.{k_max, critical_value, put_back}
use Rattle.method.specs.Bars.{k_max_column}
use Rattle.runs.specs.Stepdown.{live_set, rejected_set, critical_of, step_sets, bar_set_of, bar_row_of, bar_offer_of, newly_rejected, ends_after, next, record_of, step, left_over}
use Rattle.runs.specs.declared.State.{State}
use Rattle.runs.specs.declared.Record.{Record}
use Rattle.runs.proofs.Steps.{seen_row, critical-first, critical-later, rejected-length, same_length, seen-length, over-left, newly-is, both-length, next-rejected, going_on}
use Rattle.runs.proofs.Descent.{InProgress, next-inside}
use Rattle.runs.proofs.Bars.{Ready, bar-length, row_below, row_gives, row-sound, offer-told, offer-most}
use Rattle.masks.specs.Internal.{Walk}
use Rattle.putback.specs.Internal.{bar_of}
use Rattle.putback.specs.declared.Bar.{Bar}
use Rattle.engine.specs.Internal.{CanStep, bar_in, stops}

later-sets : (k : ℕ) (live R : Columns) (s : ℕ) → (s ≡ 0 → ⊥) → step_sets k live R s ≡ map (λ I. (live ∖ R) ∪ I) (choose (k - 1) R)
unfolding step_sets
later-sets k live R zero z = absurd (z refl)
later-sets k live R (suc s) z = refl

module _ (t : List Float) (r : State) (g : CanStep t r) where
  abbrev X : List (List Float)
  X = rows_of r.rows r.columns t

  tall : length X ≡ r.rows
  tall = rows_of-length r.rows r.columns t

  within : rejected_set r ⊆ live_set r
  within = ⊆-by (rejected_set r) (live_set r) (sym (same_length r)) g.inside

  pub in-progress : InProgress X r
  in-progress = record {
    sound = rows_of-sound r.rows r.columns t g.ready.full g.ready.finitely;
    seen = omega (arith, tall, g.seen);
    inside = within;
    many = g.many;
    tolerance = g.ready.k-some;
    rare = omega (arith, tall, g.rare);
  }

  left_is : columns_of r.columns (r.live - r.rejected) ≡ left_over r
  left_is = columns_of-minus r.columns r.live r.rejected g.live-fits g.fits within

  pub rejected-under : r.rejected ≤ r.live
  rejected-under = minus-fits r.columns r.live r.rejected g.live-fits g.fits within

  -- ---- the critical value

  pub bar-start : (c : Bar) → r.steps ≡ 0 → c ≡ bar_of r.k r.e X (live_set r ∷ []) (critical_value r.k r.e X (live_set r)) → c ≡ bar_in X r
  unfolding bar_in step_sets
  bar-start c z v =
      v ∙ ap₂ (λ (Ks : List Columns) (x : Float). bar_of r.k r.e X Ks x) (ap (step_sets r.k (live_set r) (rejected_set r)) (sym z)) (sym (critical-first X r z))

  pub bar-next : (c : Bar) → (r.steps ≡ 0 → ⊥)
      → c ≡ bar_of r.k r.e X (map (λ I. columns_of r.columns (r.live - r.rejected) ∪ I) (choose (r.k - 1) (rejected_set r))) (put_back r.k r.e X (columns_of r.columns (r.live - r.rejected)) (rejected_set r)) → c ≡ bar_in X r
  unfolding bar_in
  bar-next c z v =
      v ∙ ap (λ (K : Columns). bar_of r.k r.e X (map (λ I. K ∪ I) (choose (r.k - 1) (rejected_set r))) (put_back r.k r.e X K (rejected_set r))) left_is
      ∙ ap₂ (λ (Ks : List Columns) (x : Float). bar_of r.k r.e X Ks x) (sym (later-sets r.k (live_set r) (rejected_set r) r.steps z)) (sym (critical-later X r (positive r.steps z)))

  bar-value : (c : Bar) → c ≡ bar_in X r → c.value ≡ critical_of X r
  unfolding bar_in bar_of
  bar-value c q = ap (λ (x : Bar). x.value) q

  -- ---- the record

  pub ready : Ready X r
  ready = record { progress = in-progress; first = g.first; left = λ _. g.left }

  module _ (c : Bar) (q : c ≡ bar_in X r) where
    row_is : c.row ≡ bar_row_of X r
    unfolding bar_in bar_of bar_row_of bar_set_of
    row_is = ap (λ (x : Bar). x.row) q

    set_is : columns_of r.columns c.set ≡ bar_set_of X r
    unfolding bar_in bar_of bar_set_of
    set_is =
        ap (λ (x : Bar). columns_of r.columns x.set) q
        ∙ ap (λ (n : ℕ). columns_of n (mask_of (bar_set_of X r))) (sym (bar-length X r ready)) ∙ columns_of-mask_of (bar_set_of X r)

    pub row-there : c.row < r.rows
    row-there = omega (arith, row_is, row_below X r ready, tall)

    column-room : (row : List Float) → row ≡ get_or X c.row [] → length row ≡ r.columns
    column-room row w = ap length (w ∙ ap (λ (i : ℕ). get_or X i []) row_is) ∙ sound-length r.columns (get_or X (bar_row_of X r) []) (row-sound X r ready)

    column-is : (row : List Float) → row ≡ get_or X c.row [] → lowest (columns_of (length row) c.set ∩ equal_to c.value row) ≡ k_max_column r.k (bar_set_of X r) (get_or X (bar_row_of X r) [])
    unfolding k_max_column
    column-is row w =
        ap₂ (λ (n : ℕ) (v : Float). lowest (columns_of n c.set ∩ equal_to v row)) (column-room row w) (bar-value c q ∙ sym (row_gives X r ready))
        ∙ ap₂ (λ (K : Columns) (y : List Float). lowest (K ∩ equal_to (k_max r.k (bar_set_of X r) (get_or X (bar_row_of X r) [])) y)) set_is (w ∙ ap (λ (i : ℕ). get_or X i []) row_is)

    pub column_fits : (row : List Float) → row ≡ get_or X c.row [] → (n : ℕ) → n ≡ lowest (columns_of (length row) c.set ∩ equal_to c.value row) → n < 32
    column_fits row w n e = omega (arith, e ∙ column-is row w, (offer-told X r ready).0, offer-most X r ready, g.ready.cols-most)

    pub record_is : (row : List Float) → row ≡ get_or X c.row [] → (n : ℕ) → n ≡ lowest (columns_of (length row) c.set ∩ equal_to c.value row)
        → record { step = r.steps + 1; critical = c.value; row = c.row; offer = n + 1 } ≡ record_of X r
    unfolding record_of
    record_is row w n e = λ i. record { step = r.steps + 1; critical = bar-value c q i; row = row_is i; offer = offer i }
      where
        offer : n + 1 ≡ bar_offer_of X r
        offer = ap (λ (m : ℕ). m + 1) (e ∙ column-is row w) ∙ sym (offer-told X r ready).0

  -- what is left and what is rejected share no column
  apart : (j : ℕ) → T (has (rejected_set r) j) → has (left_over r) j ≡ false
  apart j u = has-∖ (live_set r) (rejected_set r) (same_length r) j ∙ off (has (live_set r) j) (has (rejected_set r) j) u
    where
      off : (a b : Bool) → T b → (a && not b) ≡ false
      off true true u = refl
      off true false u = absurd u
      off false b u = refl

  pub walk_start : Walk r.columns (r.live - r.rejected) r.rejected 0
  walk_start = record {
    place = omega arith;
    inside = omega (arith, g.live-fits);
    rests = let z : r.columns - 0 ≡ r.columns = omega arith in subst (λ (n : ℕ). r.rejected < 2 ^ n) (sym z) g.fits;
    apart = λ j u. let z : r.columns - 0 ≡ r.columns = omega arith in let y : 0 + j ≡ j = omega arith in
        ap₂ (λ (K : Columns) (i : ℕ). has K i) left_is y ∙ apart j (subst (λ (n : ℕ). T (has (columns_of n r.rejected) j)) z u);
  }

  pub walk-held : r.k ≤ size (columns_of r.columns (r.live - r.rejected)) + (r.k - 1)
  walk-held = omega (arith, ap size left_is, g.left)

  pub put-held : (r.steps ≡ 0 → ⊥) → r.k - 1 ≤ size (rejected_set r)
  put-held z = omega (arith, g.many (positive r.steps z))

  -- ---- what the step rejects

  module _ (b : Bar) (q : b ≡ bar_in X r) (row : List Float) (w : row ≡ seen_row X r) (new : ℕ) (n : new ≡ mask_of (columns_of (length row) (r.live - r.rejected) ∩ over b.value row)) where
    p : InProgress X r
    p = in-progress

    new_is : new ≡ mask_of (newly_rejected X r)
    new_is = n ∙ ap mask_of
        (ap₂ (λ (x : ℕ) (y : List Float). columns_of x (r.live - r.rejected) ∩ over b.value y) (ap length w ∙ seen-length X r p.sound p.seen) w
        ∙ ap₂ (λ (K : Columns) (y : Float). K ∩ over y (seen_row X r)) left_is (bar-value b q) ∙ sym (newly-is X r))

    -- rejected before and now share no column
    disjoint : (j : ℕ) → T (has (rejected_set r) j) → has (newly_rejected X r) j ≡ false
    disjoint j u =
        ap (λ (K : Columns). has K j) (newly-is X r)
        ∙ has-∩ (left_over r) (over (critical_of X r) (seen_row X r)) (over-left X r p.sound p.seen) j
        ∙ ap (λ (b : Bool). b && has (over (critical_of X r) (seen_row X r)) j) (apart j u)

    union-is : r.rejected + new ≡ mask_of (rejected_set r ∪ newly_rejected X r)
    union-is = ap₂ (λ (x y : ℕ). x + y) (sym (mask_of-columns_of r.columns r.rejected g.fits)) new_is
        ∙ sym (mask-join (rejected_set r) (newly_rejected X r) (both-length X r p.sound p.seen) disjoint)

    pub new-fits : r.rejected + new < 2 ^ r.columns
    new-fits = subst (λ (x : ℕ). x < 2 ^ r.columns) (sym union-is)
        (subst (λ (x : ℕ). mask_of (rejected_set r ∪ newly_rejected X r) < 2 ^ x) (length-∪ (rejected_set r) (newly_rejected X r) (both-length X r p.sound p.seen) ∙ rejected-length r) (mask_of-lt (rejected_set r ∪ newly_rejected X r)))

    -- the mask is that of the rejected set after the step
    after-columns : columns_of r.columns (r.rejected + new) ≡ rejected_set r ∪ newly_rejected X r
    after-columns = ap (columns_of r.columns) union-is
        ∙ ap (λ (m : ℕ). columns_of m (mask_of (rejected_set r ∪ newly_rejected X r))) (sym (length-∪ (rejected_set r) (newly_rejected X r) (both-length X r p.sound p.seen) ∙ rejected-length r))
        ∙ columns_of-mask_of (rejected_set r ∪ newly_rejected X r)

    after-within : columns_of r.columns (r.rejected + new) ⊆ live_set r
    after-within = subst (λ (K : Columns). K ⊆ live_set r) (next-rejected X r p.sound p.seen ∙ sym after-columns) (next-inside X r p)

    -- none is left exactly where the masks are equal
    none_left : eqb r.live (r.rejected + new) ≡ eqb (size (live_set r ∖ (rejected_set r ∪ newly_rejected X r))) 0
    none_left =
        equal r.live (r.rejected + new) (minus-fits r.columns r.live (r.rejected + new) g.live-fits new-fits after-within)
        ∙ ap (λ (m : ℕ). eqb m 0) (sym (mask_of-columns_of r.columns (r.live - (r.rejected + new)) (omega (arith, g.live-fits))))
        ∙ ap (λ (K : Columns). eqb (mask_of K) 0) (columns_of-minus r.columns r.live (r.rejected + new) g.live-fits new-fits after-within)
        ∙ mask-none (live_set r ∖ columns_of r.columns (r.rejected + new))
        ∙ ap (λ (K : Columns). eqb (size (live_set r ∖ K)) 0) after-columns
      where
        equal : (a b : ℕ) → b ≤ a → eqb a b ≡ eqb (a - b) 0
        equal a b h = go (a - b) refl
          where
            go : (d : ℕ) → a - b ≡ d → eqb a b ≡ eqb d 0
            go zero e = eq-eqb a b (omega arith)
            go (suc d) e = ne_eqb a b (λ q. omega arith) ∙ sym (ne_eqb (suc d) 0 (λ q. omega arith))

    stops-is : stops r.columns r.k r.live new (r.rejected + new) ≡ ends_after r.k (live_set r) (newly_rejected X r) (rejected_set r ∪ newly_rejected X r)
    unfolding stops ends_after
    stops-is =
        ap₂ (λ (x : Bool) (K : Columns). x || (ltb (size K) r.k || eqb r.live (r.rejected + new))) (ap (λ (x : ℕ). eqb x 0) new_is ∙ mask-none (newly_rejected X r)) after-columns
        ∙ ap (λ (b : Bool). eqb (size (newly_rejected X r)) 0 || (ltb (size (rejected_set r ∪ newly_rejected X r)) r.k || b)) none_left

    pub step_is : (d : Bool) (m : Record) → d ≡ stops r.columns r.k r.live new (r.rejected + new) → m ≡ record_of X r
        → record {
          state = record { rows = r.rows; columns = r.columns; k = r.k; e = r.e; observed = r.observed; live = r.live; rejected = r.rejected + new; steps = r.steps + 1; ended = d };
          logged = m;
        } ≡ step X r
    unfolding next
    step_is d m s l = λ i. record {
      state = record { rows = r.rows; columns = r.columns; k = r.k; e = r.e; observed = r.observed; live = r.live; rejected = union-is i; steps = r.steps + 1; ended = (s ∙ stops-is) i };
      logged = l i;
    }

  -- ---- the state after the step

  pub next_fits : (next (rows_of r.rows r.columns t) r).rejected < 2 ^ r.columns
  unfolding next
  next_fits = let p = in-progress in subst (λ (n : ℕ). mask_of (rejected_set r ∪ newly_rejected X r) < 2 ^ n)
      (length-∪ (rejected_set r) (newly_rejected X r) (both-length X r p.sound p.seen) ∙ rejected-length r)
      (mask_of-lt (rejected_set r ∪ newly_rejected X r))

  pub next-can : (next X r).ended ≡ false → r.steps < 32 → CanStep t (next X r)
  unfolding next
  next-can on few = let p = in-progress in let o = going_on X r p.sound p.seen on in record {
    ready = g.ready;
    rare = g.rare;
    seen = g.seen;
    live-fits = g.live-fits;
    fits = next_fits;
    inside = ⊆-at (next-inside X r p);
    steps-most = omega arith;
    first = λ z. absurd (omega arith);
    many = λ _. o.many;
    left = o.left;
  }

-- ---- whether the step ends the run

module _ (columns k live new rejected : ℕ) where
  pub stops-none : new ≡ 0 → true ≡ stops columns k live new rejected
  unfolding stops
  stops-none h = or-holds _ _ (eq-eqb new 0 h)

  module _ (f : new ≡ 0 → ⊥) (n : ℕ) (e : n ≡ size (columns_of columns rejected)) where
    pub stops-few : n < k → true ≡ stops columns k live new rejected
    unfolding stops
    stops-few h = or-passes _ _ _ (ne_eqb new 0 f) (or-holds _ _ (lt-ltb (size (columns_of columns rejected)) k (omega arith)))

    pub stops-full : k ≤ n → eqb live rejected ≡ stops columns k live new rejected
    unfolding stops
    stops-full h = or-passes _ _ _ (ne_eqb new 0 f) (or-passes _ _ _ (le-ltb (size (columns_of columns rejected)) k (omega arith)) refl)
