-- Who set the critical value of a step.
--   Ready X r        what holds before each step: k or more columns are live, and some are left
--   ready-first, ready-next     before step 1, and where a step has not ended the run
--   bar-inside, bar-wide, bar-length, bar-gives     the set that is told: of live columns, k of them or more, and its critical value is that of the step
--   row_below, row-sound, row_gives     the row that is told: it is a row, and its k-max is the critical value
--   offer-told, offer-most     the offer that is told, from 1: a live column
--   set-by           a step's record tells who set its critical value
--   record-set-by, record-offer     so does each record of a full run; its offer is a live column
use Prim.Native.Nat.{ℕ, zero, suc, ◌+◌, ◌-◌, ◌≤◌, ◌<◌}
use native.Mathlib.Omega.{arith}
use mathlib.Core.Path.{◌≡◌, refl, sym, ap, ◌∙◌, subst}
use mathlib.Core.Bool.{Bool, true, false, ◌&&◌}
use mathlib.Core.List.{List, [], ◌∷◌, map}
use lib.ListN.{length, get_or, length-map}
use lib.Dec.{T}
use lib.Ieee.{Float, nan}
use Rattle.order.specs.Order.{finite, at_most, equal, with_plus_zero}
use Rattle.order.proofs.Booleans.{and_left, and_right, and-other, true-T}
use Rattle.order.proofs.Counts.{all_get_d}
use Rattle.order.proofs.Keys.{at_most-le, smaller-unequal, equal-self}
use Rattle.order.proofs.Lists.{get_d_map}
use Rattle.order.proofs.Rows.{Sound, sound_row}
use Rattle.columns.specs.Columns.{Columns, size, ◌∪◌, choose}
use Rattle.columns.proofs.Sets.{has, ◌⊆◌, ⊆-refl, ⊆-at, ⊆-length}
use Rattle.columns.proofs.PutBack.{choose-member, size-put, put_in}
use Rattle.method.specs.Method.{k_max, critical_value, put_back}
use Rattle.method.specs.Bars.{k_max_column, bar_set, bar_row}
use Rattle.method.proofs.Critical.{critical_value-finite, critical_value-plain}
use Rattle.method.proofs.Bars as bars
use Rattle.runs.specs.Stepdown.{live_set, rejected_set, left_over, first_state, step_critical, critical_of, step_sets, bar_set_of, bar_row_of, bar_offer_of, next, record_of, step, steps_from, steps_of, full_run}
use Rattle.runs.specs.SetBy.{SetBy, after, RecordSetBy}
use Rattle.runs.specs.declared.State.{State}
use Rattle.runs.specs.declared.Record.{Record}
use Rattle.runs.specs.declared.Step.{Step}
use Rattle.runs.proofs.Steps.{live-length, same_length, critical-finite, going_on, next-steps}
use Rattle.runs.proofs.Start.{first-open}
use Rattle.runs.proofs.Descent.{InProgress, next-progress, first_progress}

pub record Ready (X : List (List Float)) (r : State) : Type 0 where
  pub progress : InProgress X r
  pub first : r.steps ≡ 0 → r.k ≤ size (live_set r)
  pub left : 0 < r.steps → 0 < size (left_over r)

pub ready-next : (X : List (List Float)) (r : State) → Ready X r → (next X r).ended ≡ false → Ready X (next X r)
ready-next X r w on = record {
  progress = next-progress X r w.progress on;
  first = λ z. absurd (omega (arith, next-steps X r));
  left = λ _. (going_on X r w.progress.sound w.progress.seen on).left;
}

pub ready-first : (X : List (List Float)) (rows columns k e observed live : ℕ) → Sound columns X → observed < length X → 0 < k → e < length X → (first_state rows columns k e observed live).ended ≡ false → Ready X (first_state rows columns k e observed live)
ready-first X rows columns k e observed live sound seen pos rare on = record {
  progress = first_progress X rows columns k e observed live sound seen pos rare;
  first = λ _. first-open rows columns k e observed live on;
  left = λ p. absurd (omega arith);
}

-- ---- the sets of a step

module _ (X : List (List Float)) (r : State) (w : Ready X r) where
  p : InProgress X r
  p = w.progress

  abbrev sets : ℕ → List Columns
  sets s = step_sets r.k (live_set r) (rejected_set r) s

  abbrev value : ℕ → Float
  value s = step_critical r.k r.e X (live_set r) (rejected_set r) s

  -- what holds of the sets that are looked at after s steps: one of them gives the critical value, all are of live columns, k of them or more, and none gives a larger value
  record Told (s : ℕ) : Type 0 where
    there : bars.set_place r.k r.e X (step_sets r.k (live_set r) (rejected_set r) s) (value s) < length (step_sets r.k (live_set r) (rejected_set r) s)
    plain : with_plus_zero (value s) ≡ value s
    member : (i : ℕ) → i < length (sets s) → (get_or (sets s) i [] ⊆ live_set r) × (r.k ≤ size (get_or (sets s) i []))
    most : (i : ℕ) → i < length (sets s) → T (at_most (critical_value r.k r.e X (get_or (sets s) i [])) (value s))

  told-first : r.steps ≡ 0 → Told 0
  unfolding step_sets step_critical
  told-first z = record {
    there = omega (arith, bars.alone-there r.columns r.k r.e X (live_set r) p.sound);
    plain = critical_value-plain r.k r.e X (live_set r);
    member = λ i h. alone i h (λ K. (K ⊆ live_set r) × (r.k ≤ size K)) (⊆-refl (live_set r), w.first z);
    most = λ i h. alone i h (λ K. T (at_most (critical_value r.k r.e X K) (critical_value r.k r.e X (live_set r)))) (let f = critical_value-finite r.columns r.k r.e X (live_set r) p.sound in at_most-le (critical_value r.k r.e X (live_set r)) (critical_value r.k r.e X (live_set r)) f f (omega arith));
  }
    where
      alone : (i : ℕ) → i < 1 → (P : Columns → Type 0) → P (live_set r) → P (get_or (live_set r ∷ []) i [])
      alone zero h P q = q
      alone (suc i) h P q = absurd (omega arith)

  told-later : (s : ℕ) → 0 < r.steps → Told (suc s)
  unfolding step_sets step_critical
  told-later s h = record {
    there = bars.put-there r.columns r.k r.e X p.sound (left_over r) (rejected_set r) some;
    plain = bars.put-plain r.columns r.k r.e X p.sound (left_over r) (rejected_set r) some;
    member = λ i l. subst (λ (K : Columns). (K ⊆ live_set r) × (r.k ≤ size K)) (sym (at i l)) (put i (few i l));
    most = λ i l. subst (λ (K : Columns). T (at_most (critical_value r.k r.e X K) (put_back r.k r.e X (left_over r) (rejected_set r)))) (sym (at i l)) (bars.put-most r.columns r.k r.e X p.sound (left_over r) (rejected_set r) some i (few i l));
  }
    where
      Is : List Columns
      Is = choose (r.k - 1) (rejected_set r)

      some : r.k - 1 ≤ size (rejected_set r)
      some = omega (arith, p.many h)

      few : (i : ℕ) → i < length (map (λ I. left_over r ∪ I) (choose (r.k - 1) (rejected_set r))) → i < length (choose (r.k - 1) (rejected_set r))
      few i l = omega (arith, length-map (choose (r.k - 1) (rejected_set r)) (λ I. left_over r ∪ I))

      at : (i : ℕ) → i < length (map (λ I. left_over r ∪ I) (choose (r.k - 1) (rejected_set r))) → get_or (map (λ I. left_over r ∪ I) (choose (r.k - 1) (rejected_set r))) i [] ≡ left_over r ∪ get_or (choose (r.k - 1) (rejected_set r)) i []
      at i l = get_d_map (λ I. left_over r ∪ I) (choose (r.k - 1) (rejected_set r)) i [] [] (few i l)

      put : (i : ℕ) → i < length (choose (r.k - 1) (rejected_set r)) → ((left_over r ∪ get_or (choose (r.k - 1) (rejected_set r)) i []) ⊆ live_set r) × (r.k ≤ size (left_over r ∪ get_or (choose (r.k - 1) (rejected_set r)) i []))
      put i l =
          let m = choose-member (r.k - 1) (rejected_set r) i l in
          (put_in p.inside m.0, omega (arith, m.1, size-put (live_set r) m.0 (same_length r), w.left h, p.tolerance))

  told : Told r.steps
  told = go r.steps refl
    where
      go : (s : ℕ) → r.steps ≡ s → Told s
      go zero z = told-first z
      go (suc s) z = told-later s (omega arith)

  -- ---- the set that is told

  at_place : (get_or (sets r.steps) (bars.set_place r.k r.e X (sets r.steps) (critical_of X r)) [] ⊆ live_set r) × (r.k ≤ size (get_or (sets r.steps) (bars.set_place r.k r.e X (sets r.steps) (critical_of X r)) []))
  unfolding critical_of
  at_place = told.member (bars.set_place r.k r.e X (sets r.steps) (value r.steps)) told.there

  pub bar-inside : bar_set_of X r ⊆ live_set r
  unfolding bar_set_of bar_set
  bar-inside = at_place.0

  pub bar-wide : r.k ≤ size (bar_set_of X r)
  unfolding bar_set_of bar_set
  bar-wide = at_place.1

  pub bar-length : length (bar_set_of X r) ≡ r.columns
  bar-length = ⊆-length bar-inside ∙ live-length r

  finitely : T (finite (critical_of X r))
  finitely = critical-finite X r p.sound p.seen

  pub bar-gives : critical_value r.k r.e X (bar_set_of X r) ≡ critical_of X r
  unfolding bar_set_of critical_of
  bar-gives = bars.set_value r.k r.e X (sets r.steps) (value r.steps) told.there r.columns p.sound finitely told.plain

  -- ---- the row and the offer

  row_is : bar_row_of X r ≡ bar_row r.k X (bar_set_of X r) (critical_value r.k r.e X (bar_set_of X r))
  unfolding bar_row_of
  row_is = ap (bar_row r.k X (bar_set_of X r)) (sym bar-gives)

  pub row_below : bar_row_of X r < length X
  row_below = subst (λ (g : ℕ). g < length X) (sym row_is) (bars.row-there r.columns r.k r.e X p.sound p.tolerance p.rare (bar_set_of X r) bar-length bar-wide)

  pub row_gives : k_max r.k (bar_set_of X r) (get_or X (bar_row_of X r) []) ≡ critical_of X r
  row_gives =
      ap (λ (g : ℕ). k_max r.k (bar_set_of X r) (get_or X g [])) row_is
      ∙ bars.row-value r.columns r.k r.e X p.sound p.tolerance p.rare (bar_set_of X r) bar-length bar-wide ∙ bar-gives

  pub row-sound : T (sound_row r.columns (get_or X (bar_row_of X r) []))
  row-sound = all_get_d (sound_row r.columns) X (bar_row_of X r) [] row_below p.sound

  sound-here : T (sound_row (length (bar_set_of X r)) (get_or X (bar_row_of X r) []))
  sound-here = subst (λ (m : ℕ). T (sound_row m (get_or X (bar_row_of X r) []))) (sym bar-length) row-sound

  abbrev column : ℕ
  column = k_max_column r.k (bar_set_of X r) (get_or X (bar_row_of X r) [])

  column-has : T (has (bar_set_of X r) column && equal (critical_of X r) (get_or (get_or X (bar_row_of X r) []) column nan))
  column-has = subst (λ (v : Float). T (has (bar_set_of X r) column && equal v (get_or (get_or X (bar_row_of X r) []) column nan))) row_gives (bars.column-has r.k (bar_set_of X r) (get_or X (bar_row_of X r) []) sound-here p.tolerance bar-wide)

  -- the offer counts from 1, and is a live column
  pub offer-told : (bar_offer_of X r ≡ k_max_column r.k (bar_set_of X r) (get_or X (bar_row_of X r) []) + 1) × T (has (live_set r) (bar_offer_of X r - 1))
  unfolding bar_offer_of
  offer-told =
      let z : column + 1 - 1 ≡ column = omega arith in
      (refl, subst (λ (j : ℕ). T (has (live_set r) j)) (sym z) (⊆-at bar-inside column (and_left (has (bar_set_of X r) column) (equal (critical_of X r) (get_or (get_or X (bar_row_of X r) []) column nan)) column-has)))

  pub offer-most : bar_offer_of X r ≤ r.columns
  offer-most = omega (arith, offer-told.0, bars.column-there r.k (bar_set_of X r) (get_or X (bar_row_of X r) []) sound-here p.tolerance bar-wide, bar-length)

  -- ---- all of it

  pub set-by : SetBy r.k r.e X (step_sets r.k (live_set r) (rejected_set r) r.steps) (record_of X r)
  unfolding record_of bar_set_of bar_set bar_row_of critical_of
  set-by =
      let c = critical_of X r in
      let K = bar_set_of X r in
      let row = get_or X (bar_row_of X r) [] in
      let z : bar_offer_of X r - 1 ≡ column = omega (arith, offer-told.0) in
      record {
        place = bars.set_place r.k r.e X (sets r.steps) c;
        walked = told.there;
        gives = bar-gives;
        earlier = λ i h. smaller-unequal (critical_value r.k r.e X (get_or (sets r.steps) i [])) c (critical_value-finite r.columns r.k r.e X (get_or (sets r.steps) i []) p.sound) finitely
            (told.most i (omega (arith, told.there))) (bars.set_before r.k r.e X (sets r.steps) c i h);
        largest = told.most;
        row_below = row_below;
        row-equals = subst (λ (v : Float). T (equal c v)) (sym row_gives) (true-T (equal c c) (equal-self c finitely));
        row-lowest = λ g h. bars.row_first r.k X K c g h;
        offer-some = omega (arith, offer-told.0);
        offer-in = subst (λ (j : ℕ). T (has K j)) (sym z) (and_left (has K column) (equal c (get_or row column nan)) column-has);
        offer-equals = subst (λ (j : ℕ). T (equal c (get_or row j nan))) (sym z) (and_right (has K column) (equal c (get_or row column nan)) column-has);
        offer-lowest = λ j h t. and-other (has K j) (equal c (get_or row j nan))
            (subst (λ (v : Float). (has K j && equal v (get_or row j nan)) ≡ false) row_gives (bars.column-first r.k K row sound-here p.tolerance bar-wide j (omega (arith, z)))) t;
      }

-- ---- the full run

-- a step changes neither k, e, the columns nor what is live, and is one more
record Kept (s r : State) (n : ℕ) : Type 0 where
  k-same : r.k ≡ s.k
  e-same : r.e ≡ s.e
  live_same : live_set r ≡ live_set s
  columns-same : r.columns ≡ s.columns
  steps_on : r.steps ≡ s.steps + n

after_kept : (X : List (List Float)) (n : ℕ) (s : State) → Kept s (after n X s) n
unfolding after next
after_kept X zero s = record { k-same = refl; e-same = refl; live_same = refl; columns-same = refl; steps_on = omega arith }
after_kept X (suc n) s = let h = after_kept X n (next X s) in record { k-same = h.k-same; e-same = h.e-same; live_same = h.live_same; columns-same = h.columns-same; steps_on = omega (arith, h.steps_on) }

module _ (X : List (List Float)) where
  -- where a run has not ended it is ready for a step; so is each of its records told by the state before it
  steps-told : (m : ℕ) (b : Bool) (s : State) (d : Step) → s.ended ≡ b → (b ≡ false → Ready X s) → (i : ℕ) → i < length (steps_from m b X s) → Ready X (after i X s) × ((get_or (steps_from m b X s) i d).logged ≡ record_of X (after i X s))
  unfolding steps_from after
  steps-told zero b s d q w i h = absurd (omega arith)
  steps-told (suc m) true s d q w i h = absurd (omega arith)
  steps-told (suc m) false s d q w zero h = (w refl, refl)
  steps-told (suc m) false s d q w (suc i) h = steps-told m (next X s).ended (next X s) d refl (λ on. ready-next X s (w refl) on) i (omega arith)

  -- the record of step i + 1 is told by the state before it
  module _ (s : State) (fresh : s.steps ≡ 0) (w : s.ended ≡ false → Ready X s) (i : ℕ) (h : i < length (full_run X s).records) where
    few : i < length (steps_of X s)
    unfolding full_run
    few = omega (arith, length-map (steps_of X s) (λ (x : Step). x.logged))

    told_at : Ready X (after i X s) × ((get_or (steps_from 32 s.ended X s) i (step X s)).logged ≡ record_of X (after i X s))
    unfolding steps_of
    told_at = steps-told 32 s.ended s (step X s) refl w i few

    record-told : (d : Record) → get_or (full_run X s).records i d ≡ record_of X (after i X s)
    unfolding full_run steps_of
    record-told d = get_d_map (λ (x : Step). x.logged) (steps_of X s) i (step X s) d few ∙ told_at.1

    kept : Kept s (after i X s) i
    kept = after_kept X i s

    pub record-set-by : (d : Record) → RecordSetBy X s i (get_or (full_run X s).records i d)
    unfolding record_of
    record-set-by d =
        let r = after i X s in
        let z : r.steps ≡ i = omega (arith, kept.steps_on, fresh) in
        subst (λ (m : Record). RecordSetBy X s i m) (sym (record-told d)) (
          ap (λ (n : ℕ). n + 1) z,
          subst (λ (n : ℕ). SetBy s.k s.e X (step_sets s.k (live_set s) (rejected_set r) n) (record_of X r)) z
              (subst (λ (K : Columns). SetBy s.k s.e X (step_sets s.k K (rejected_set r) r.steps) (record_of X r)) kept.live_same
              (subst (λ (n : ℕ). SetBy s.k n X (step_sets s.k (live_set r) (rejected_set r) r.steps) (record_of X r)) kept.e-same
              (subst (λ (n : ℕ). SetBy n r.e X (step_sets n (live_set r) (rejected_set r) r.steps) (record_of X r)) kept.k-same (set-by X r told_at.0)))),
        )

    -- its offer is one of the columns, and live
    pub record-offer : (d : Record) → let m = get_or (full_run X s).records i d in (m.offer ≤ s.columns) × T (has (live_set s) (m.offer - 1))
    unfolding record_of
    record-offer d =
        let r = after i X s in
        subst (λ (m : Record). (m.offer ≤ s.columns) × T (has (live_set s) (m.offer - 1))) (sym (record-told d))
        (omega (arith, offer-most X r told_at.0, kept.columns-same), subst (λ (K : Columns). T (has K (bar_offer_of X r - 1))) kept.live_same (offer-told X r told_at.0).1)
