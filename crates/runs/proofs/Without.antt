-- Columns that are not live take part in nothing: a full run over live columns is the full run of the table without the others.
--   Alike s u             u is the state s, seen from the live columns L alone (columns/proofs/Parts.antt)
--   critical-alike, newly-alike, next-alike     such states have the same critical value, reject the same columns, and a step keeps them so
--   counted L m           a record whose offer is counted among the columns of L, as one whose offer is counted among all columns
--   records-without       both runs leave the same records, but for that
--   verdict-without, verdicts-without, counts-without     and tell the same of each live column
--   rest-sound            the rows without the other columns
use Prim.Native.Nat.{ℕ, zero, suc, ◌+◌, ◌-◌, ◌<◌}
use native.Mathlib.Omega.{arith}
use mathlib.Core.Path.{◌≡◌, refl, sym, ap, ap₂, ◌∙◌, subst}
use mathlib.Core.Bool.{Bool, true, false, cond, ◌||◌}
use mathlib.Core.List.{List, [], ◌∷◌, map}
use lib.ListN.{length, get_or, length-map}
use lib.Seq.{ext_get_or}
use lib.Dec.{T, ltb, eqb}
use lib.Ieee.{Float, nan}
use Rattle.order.specs.Order.{plus_zero, finite, smaller}
use Rattle.order.specs.Counting.{all}
use Rattle.order.proofs.Booleans.{and_left, and_right, and_both}
use Rattle.order.proofs.Lists.{get_d_map}
use Rattle.order.proofs.Rows.{Sound, sound_row, sound-length, sound-finite, sound-row}
use Rattle.columns.specs.Columns.{Columns, size, ◌∪◌, ◌∩◌, ◌∖◌, within, over, choose, in_set, columns_of, full_mask}
use Rattle.columns.proofs.Sets.{has, has_all, ◌⊆◌, ⊆-refl, ⊆-length, ∪-in, ∩-in, ∖-in, within-length, within_all, empty-in}
use Rattle.columns.proofs.Masks.{columns_of-length, columns_of-none, has-columns_of, full-columns}
use Rattle.columns.proofs.Parts.{within-map, within-∪, within-∩, within-∖, within-size, within-self, position, position-lt, position_in, within-at}
use Rattle.method.specs.Method.{critical_value, put_back, at_least}
use Rattle.method.specs.Bars.{k_max_column, bar_set, bar_row}
use Rattle.method.proofs.Bars.{alone-set}
use Rattle.method.proofs.Parts.{critical-part, put_back-part, at_least-part, k_max_column-part, bar_row-part, bar_set-part}
use Rattle.runs.specs.Stepdown.{live_set, rejected_set, left_over, first_state, step_critical, critical_of, step_sets, bar_set_of, bar_row_of, bar_offer_of, newly_rejected, ends_after, next, record_of, steps_from, steps_of, verdict_from, verdict_of, full_run}
use Rattle.runs.specs.declared.State.{State}
use Rattle.runs.specs.declared.Record.{Record}
use Rattle.runs.specs.declared.Step.{Step}
use Rattle.runs.specs.declared.Verdict.{Verdict}
use Rattle.runs.specs.declared.Verdict.TheVariants.{Rejected, Kept}
use Rattle.runs.proofs.Steps.{seen_row, at-column, critical-first, seen-length, newly-is, over-left, both-length, next-rejected}
use Rattle.runs.proofs.Start.{full_size}
use Rattle.runs.proofs.Bars.{Ready, ready-next, ready-first, bar-inside, row_below, row-sound}
use Rattle.runs.proofs.ToldColumns.{verdicts-length, counts-length, verdict-live, count-live}

-- a record whose offer is counted among the columns of L, as one whose offer is counted among all columns
abbrev pub counted : Columns → Record → Record
counted L m = record { step = m.step; critical = m.critical; row = m.row; offer = position L (m.offer - 1) + 1 }

module _ (X : List (List Float)) (n : ℕ) (sound : Sound n X) (L : Columns) (len : length L ≡ n) where
  -- the table without the columns outside L
  abbrev Y : List (List Float)
  Y = map (within L) X

  pub rest-sound : (Z : List (List Float)) → Sound n Z → Sound (size L) (map (within L) Z)
  unfolding all
  rest-sound [] s = tt
  rest-sound (row ∷ Z) s =
      let t = and_left (sound_row n row) (all (sound_row n) Z) s in
      and_both (sound_row (size L) (within L row)) (all (sound_row (size L)) (map (within L) Z))
      (sound-row (size L) (within L row) (within-length L row (sound-length n row t ∙ sym len)) (within_all finite L row (sound-finite n row t))) (rest-sound Z (and_right (sound_row n row) (all (sound_row n) Z) s))

  -- u is s, seen from L, of which s has every column live
  record Alike (s u : State) : Type 0 where
    columns-are : s.columns ≡ n
    fewer : u.columns ≡ size L
    k-same : u.k ≡ s.k
    e-same : u.e ≡ s.e
    observed-same : u.observed ≡ s.observed
    steps-same : u.steps ≡ s.steps
    live-are : live_set s ≡ L
    all_live : live_set u ≡ within L L
    inside : rejected_set s ⊆ L
    rejected-same : rejected_set u ≡ within L (rejected_set s)
    seen : s.observed < length X

  module _ (s u : State) (a : Alike s u) where
    abbrev R : Columns
    R = rejected_set s

    even : length L ≡ length (rejected_set s)
    even = sym (⊆-length a.inside)

    left_in : (L ∖ rejected_set s) ⊆ L
    left_in = ∖-in (⊆-refl L) R even

    critical-alike : critical_of Y u ≡ critical_of X s
    unfolding critical_of
    critical-alike =
        ap₂ (λ (k e : ℕ). step_critical k e Y (live_set u) (rejected_set u) u.steps) a.k-same a.e-same
        ∙ ap₂ (λ (A B : Columns). step_critical s.k s.e Y A B u.steps) a.all_live a.rejected-same
        ∙ ap (step_critical s.k s.e Y (within L L) (within L R)) a.steps-same
        ∙ by-steps s.steps
        ∙ ap (λ (A : Columns). step_critical s.k s.e X A R s.steps) (sym a.live-are)
      where
        by-steps : (m : ℕ) → step_critical s.k s.e Y (within L L) (within L R) m ≡ step_critical s.k s.e X L R m
        by-steps zero = critical-part n s.k s.e X sound L len (⊆-refl L)
        by-steps (suc m) = ap (λ (A : Columns). put_back s.k s.e Y A (within L R)) (sym (within-∖ L L R even)) ∙ put_back-part n s.k s.e X sound L len left_in a.inside

    sound-s : Sound s.columns X
    sound-s = subst (λ (m : ℕ). Sound m X) (sym a.columns-are) sound

    sound-u : Sound u.columns Y
    sound-u = subst (λ (m : ℕ). Sound m Y) (sym a.fewer) (rest-sound X sound)

    seen-u : u.observed < length Y
    seen-u = omega (arith, a.seen, a.observed-same, length-map X (within L))

    left-alike : left_over u ≡ within L (left_over s)
    left-alike = ap₂ (λ (A B : Columns). A ∖ B) a.all_live a.rejected-same ∙ sym (within-∖ L L R even) ∙ ap (λ (A : Columns). within L (A ∖ R)) (sym a.live-are)

    row-alike : seen_row Y u ≡ within L (seen_row X s)
    row-alike = ap (λ (i : ℕ). get_or Y i []) a.observed-same ∙ get_d_map (within L) X s.observed [] [] a.seen

    over-alike : over (critical_of Y u) (seen_row Y u) ≡ within L (over (critical_of X s) (seen_row X s))
    unfolding over
    over-alike = ap₂ (λ (c : Float) (row : List Float). over c row) critical-alike row-alike ∙ sym (within-map (λ x. smaller (critical_of X s) x) L (seen_row X s))

    newly-alike : newly_rejected Y u ≡ within L (newly_rejected X s)
    newly-alike =
        newly-is Y u ∙ ap₂ (λ (A B : Columns). A ∩ B) left-alike over-alike
        ∙ sym (within-∩ L (left_over s) (over (critical_of X s) (seen_row X s)) (over-left X s sound-s a.seen)) ∙ ap (within L) (sym (newly-is X s))

    newly-in : newly_rejected X s ⊆ L
    newly-in = subst (λ (K : Columns). K ⊆ L) (sym (newly-is X s))
        (∩-in (subst (λ (A : Columns). (A ∖ R) ⊆ L) (sym a.live-are) left_in) (over (critical_of X s) (seen_row X s)) (over-left X s sound-s a.seen))

    both-alike : rejected_set u ∪ newly_rejected Y u ≡ within L (rejected_set s ∪ newly_rejected X s)
    both-alike = ap₂ (λ (A B : Columns). A ∪ B) a.rejected-same newly-alike ∙ sym (within-∪ L R (newly_rejected X s) (both-length X s sound-s a.seen))

    both-in : (rejected_set s ∪ newly_rejected X s) ⊆ L
    both-in = ∪-in a.inside newly-in

    next-alike : Alike (next X s) (next Y u)
    unfolding next
    next-alike = record {
      columns-are = a.columns-are;
      fewer = a.fewer;
      k-same = a.k-same;
      e-same = a.e-same;
      observed-same = a.observed-same;
      steps-same = omega (arith, a.steps-same);
      live-are = a.live-are;
      all_live = a.all_live;
      inside = subst (λ (K : Columns). K ⊆ L) (sym (next-rejected X s sound-s a.seen)) both-in;
      rejected-same = next-rejected Y u sound-u seen-u ∙ both-alike ∙ ap (within L) (sym (next-rejected X s sound-s a.seen));
      seen = a.seen;
    }

    number-alike : (record_of Y u).step ≡ (record_of X s).step
    unfolding record_of
    number-alike = ap (λ (m : ℕ). m + 1) a.steps-same

    value-alike : (record_of Y u).critical ≡ (record_of X s).critical
    unfolding record_of
    value-alike = critical-alike

    -- ---- who set the critical value

    set-alike : bar_set_of Y u ≡ within L (bar_set_of X s)
    unfolding bar_set_of
    set-alike =
        ap₂ (λ (k e : ℕ). bar_set k e Y (step_sets k (live_set u) (rejected_set u) u.steps) (critical_of Y u)) a.k-same a.e-same
        ∙ ap₂ (λ (A B : Columns). bar_set s.k s.e Y (step_sets s.k A B u.steps) (critical_of Y u)) a.all_live a.rejected-same
        ∙ ap₂ (λ (m : ℕ) (c : Float). bar_set s.k s.e Y (step_sets s.k (within L L) (within L R) m) c) a.steps-same critical-alike
        ∙ by-steps s.steps refl
        ∙ ap (λ (A : Columns). within L (bar_set s.k s.e X (step_sets s.k A R s.steps) (critical_of X s))) (sym a.live-are)
      where
        by-steps : (m : ℕ) → s.steps ≡ m → bar_set s.k s.e Y (step_sets s.k (within L L) (within L R) m) (critical_of X s) ≡ within L (bar_set s.k s.e X (step_sets s.k L R m) (critical_of X s))
        by-steps zero z =
            let c : critical_of X s ≡ critical_value s.k s.e X L = critical-first X s z ∙ ap (critical_value s.k s.e X) a.live-are in
            alone-set (size L) s.k s.e Y (within L L) (rest-sound X sound) (critical_of X s) (c ∙ sym (critical-part n s.k s.e X sound L len (⊆-refl L)))
            ∙ sym (ap (within L) (alone-set n s.k s.e X L sound (critical_of X s) c))
        by-steps (suc m) z = ap (λ (A : Columns). bar_set s.k s.e Y (map (λ I. A ∪ I) (choose (s.k - 1) (within L R))) (critical_of X s)) (sym (within-∖ L L R even)) ∙ bar_set-part n s.k s.e X sound L len left_in a.inside (critical_of X s)

    module _ (w : Ready X s) where
      bar-in : bar_set_of X s ⊆ L
      bar-in = subst (λ (A : Columns). bar_set_of X s ⊆ A) a.live-are (bar-inside X s w)

      row_same : bar_row_of Y u ≡ bar_row_of X s
      unfolding bar_row_of
      row_same =
          ap₂ (λ (k : ℕ) (K : Columns). bar_row k Y K (critical_of Y u)) a.k-same set-alike
          ∙ ap (bar_row s.k Y (within L (bar_set_of X s))) critical-alike ∙ bar_row-part n s.k s.e X sound L len bar-in (critical_of X s)

      offer-same : position L (bar_offer_of Y u - 1) + 1 ≡ bar_offer_of X s
      unfolding bar_offer_of
      offer-same =
          let g = bar_row_of X s in
          let row = get_or X g [] in
          let K = bar_set_of X s in
          let j = k_max_column u.k (bar_set_of Y u) (get_or Y (bar_row_of Y u) []) in
          let z : j + 1 - 1 ≡ j = omega arith in
          ap (λ (i : ℕ). position L i + 1) z
          ∙ ap₂ (λ (k : ℕ) (A : Columns). position L (k_max_column k A (get_or Y (bar_row_of Y u) [])) + 1) a.k-same set-alike
          ∙ ap (λ (x : List Float). position L (k_max_column s.k (within L K) x) + 1) (ap (λ (i : ℕ). get_or Y i []) row_same ∙ get_d_map (within L) X g [] [] (row_below X s w))
          ∙ ap (λ (i : ℕ). i + 1) (k_max_column-part n s.k s.e X sound L len bar-in row (subst (λ (m : ℕ). T (sound_row m row)) a.columns-are (row-sound X s w)))

      -- the records are the same, but that offers count among the columns of L
      record-alike : counted L (record_of Y u) ≡ record_of X s
      unfolding record_of
      record-alike = λ i. record { step = number-alike i; critical = critical-alike i; row = row_same i; offer = offer-same i }

    ended-alike : (next Y u).ended ≡ (next X s).ended
    unfolding next ends_after
    ended-alike =
        let N = newly_rejected X s in
        let B = R ∪ N in
        ap₂ (λ (x y : Bool). x || y) (ap (λ (m : ℕ). eqb m 0) (ap size newly-alike ∙ within-size newly-in))
        (ap₂ (λ (x y : Bool). x || y) (ap₂ ltb (ap size both-alike ∙ within-size both-in) a.k-same)
        (ap (λ (m : ℕ). eqb m 0) (ap₂ (λ (A C : Columns). size (A ∖ C)) a.all_live both-alike ∙ ap size (sym (within-∖ L L B (sym (⊆-length both-in)))) ∙ within-size (∖-in (⊆-refl L) B (sym (⊆-length both-in))) ∙ ap (λ (A : Columns). size (A ∖ B)) (sym a.live-are))))

  -- ---- all steps

  data AlikeSteps : List Step → List Step → Type 0 where
    none : AlikeSteps [] []
    more : {x y : Step} {xs ys : List Step} → y.logged.step ≡ x.logged.step → y.logged.critical ≡ x.logged.critical → Alike x.state y.state → AlikeSteps xs ys → AlikeSteps (x ∷ xs) (y ∷ ys)

  steps_alike : (m : ℕ) (b c : Bool) (s u : State) → c ≡ b → Alike s u → AlikeSteps (steps_from m b X s) (steps_from m c Y u)
  unfolding steps_from
  steps_alike zero b c s u q a = none
  steps_alike (suc m) true c s u q a = subst (λ (d : Bool). AlikeSteps [] (steps_from (suc m) d Y u)) (sym q) none
  steps_alike (suc m) false c s u q a =
      subst (λ (d : Bool). AlikeSteps (steps_from (suc m) false X s) (steps_from (suc m) d Y u)) (sym q)
      (more (number-alike s u a) (value-alike s u a) (next-alike s u a) (steps_alike m (next X s).ended (next Y u).ended (next X s) (next Y u) (ended-alike s u a) (next-alike s u a)))

  records-alike : (m : ℕ) (b c : Bool) (s u : State) → c ≡ b → Alike s u → (b ≡ false → Ready X s) → map (counted L) (map (λ z. z.logged) (steps_from m c Y u)) ≡ map (λ z. z.logged) (steps_from m b X s)
  unfolding steps_from
  records-alike zero b c s u q a w = refl
  records-alike (suc m) true c s u q a w = ap (λ (d : Bool). map (counted L) (map (λ z. z.logged) (steps_from (suc m) d Y u))) q
  records-alike (suc m) false c s u q a w =
      ap (λ (d : Bool). map (counted L) (map (λ z. z.logged) (steps_from (suc m) d Y u))) q
      ∙ ap₂ (λ (z : Record) (zs : List Record). z ∷ zs) (record-alike s u a (w refl))
      (records-alike m (next X s).ended (next Y u).ended (next X s) (next Y u) (ended-alike s u a) (next-alike s u a) (λ on. ready-next X s (w refl) on))

  verdict-alike : {xs ys : List Step} (last : Float) (i : ℕ) → i < size L → AlikeSteps xs ys → verdict_from last ys i ≡ verdict_from last xs (position L i)
  verdict-alike last i h none = refl
  verdict-alike last i h (more {x} {y} {xs} {ys} l v a r) =
      ap₂ (λ (b : Bool) (m : ℕ). cond b (Rejected m y.logged.critical) (verdict_from y.logged.critical ys i)) bit l
      ∙ ap (λ (c : Float). cond (in_set x.state.rejected (position L i)) (Rejected x.logged.step c) (verdict_from c ys i)) v
      ∙ ap (λ (v : Verdict). cond (in_set x.state.rejected (position L i)) (Rejected x.logged.step x.logged.critical) v) (verdict-alike x.logged.critical i h r)
    where
      bit : in_set y.state.rejected i ≡ in_set x.state.rejected (position L i)
      bit =
          sym (at-column y.state i (omega (arith, a.fewer))) ∙ ap (λ (K : Columns). has K i) a.rejected-same
          ∙ within-at L (rejected_set x.state) i false h (⊆-length a.inside) ∙ at-column x.state (position L i) (omega (arith, a.columns-are, position-lt L i h, len))

-- ---- the full run

module _ (X : List (List Float)) (rows columns k e observed live : ℕ) (sound : Sound columns X) (seen : observed < length X) where
  abbrev L : Columns
  L = columns_of columns live

  abbrev full : State
  full = first_state rows columns k e observed live

  -- the state of a table's run: all its columns are live
  abbrev part : State
  part = first_state rows (size L) k e observed (full_mask (size L))

  long : length (columns_of columns live) ≡ columns
  long = columns_of-length columns live

  first_alike : Alike X columns sound L long full part
  first_alike = record {
    columns-are = refl;
    fewer = refl;
    k-same = refl;
    e-same = refl;
    observed-same = refl;
    steps-same = refl;
    live-are = refl;
    all_live = full-columns (size L) ∙ sym (within-self L);
    inside = subst (λ (K : Columns). K ⊆ L) (sym none_yet) (empty-in L);
    rejected-same = none-of-part ∙ sym (within-map (λ _. false) L L) ∙ ap (within L) (sym none_yet);
    seen = seen;
  }
    where
      none_yet : columns_of columns 0 ≡ map (λ _. false) L
      none_yet = ap (λ (m : ℕ). columns_of m 0) (sym long) ∙ columns_of-none L

      none-of-part : columns_of (size L) 0 ≡ map (λ _. false) (within L L)
      none-of-part = ap (λ (m : ℕ). columns_of m 0) (sym (within-length L L refl)) ∙ columns_of-none (within L L)

  run-alike : AlikeSteps X columns sound L long (steps_of X full) (steps_of (map (within (columns_of columns live)) X) part)
  unfolding steps_of
  run-alike = steps_alike X columns sound L long 32 full.ended part.ended full part (ap (λ (m : ℕ). ltb m k) (full_size (size L))) first_alike

  -- the records of the smaller table, their offers counted in the larger one
  pub records-without : 0 < k → e < length X
      → (full_run X (first_state rows columns k e observed live)).records ≡ map (counted (columns_of columns live)) (full_run (map (within (columns_of columns live)) X) (first_state rows (size (columns_of columns live)) k e observed (full_mask (size (columns_of columns live))))).records
  unfolding full_run steps_of
  records-without pos rare =
      sym (records-alike X columns sound L long 32 full.ended part.ended full part (ap (λ (m : ℕ). ltb m k) (full_size (size L))) first_alike (λ on. ready-first X rows columns k e observed live sound seen pos rare on))

  module _ (i : ℕ) (h : i < size (columns_of columns live)) where
    at : position (columns_of columns live) i < columns
    at = omega (arith, position-lt L i h, long)

    on : in_set live (position (columns_of columns live) i) ≡ true
    on = sym (has-columns_of columns live (position L i) at) ∙ position_in L i h

    part-on : in_set (full_mask (size (columns_of columns live))) i ≡ true
    part-on = sym (has-columns_of (size L) (full_mask (size L)) i h) ∙ ap (λ (K : Columns). has K i) (full-columns (size L)) ∙ has_all (size L) i h

    pub verdict-without : (d : Verdict) → get_or (full_run X full).verdicts (position L i) d ≡ get_or (full_run (map (within L) X) part).verdicts i d
    unfolding verdict_of
    verdict-without d = verdict-live X full (position L i) at d on ∙ sym (verdict-live (map (within L) X) part i h d part-on ∙ verdict-alike X columns sound L long plus_zero i h run-alike)

    seen-at-part : get_or (get_or (map (within L) X) observed []) i nan ≡ get_or (get_or X observed []) (position L i) nan
    seen-at-part =
        ap (λ (row : List Float). get_or row i nan) (get_d_map (within L) X observed [] [] seen)
        ∙ within-at L (get_or X observed []) i nan h (seen-length X full sound seen ∙ sym long)

    count-at-part : get_or (full_run X full).counts (position L i) 0 ≡ get_or (full_run (map (within L) X) part).counts i 0
    count-at-part =
        count-live X full (position L i) at on
        ∙ sym (count-live (map (within L) X) part i h part-on ∙ ap (λ (v : Float). at_least (map (within L) X) v i) seen-at-part ∙ at_least-part columns X sound L long (get_or (get_or X observed []) (position L i) nan) i h)

  -- of the live columns, in their order
  pub verdicts-without : within (columns_of columns live) (full_run X (first_state rows columns k e observed live)).verdicts
      ≡ (full_run (map (within (columns_of columns live)) X) (first_state rows (size (columns_of columns live)) k e observed (full_mask (size (columns_of columns live))))).verdicts
  verdicts-without =
      let vs = (full_run X full).verdicts in
      let m : length (within L vs) ≡ size L = within-length L vs (verdicts-length X full ∙ sym long) in
      ext_get_or (Kept plus_zero) (within L vs) (full_run (map (within L) X) part).verdicts (m ∙ sym (verdicts-length (map (within L) X) part))
      (λ i l. let h : i < size L = omega arith in within-at L vs i (Kept plus_zero) h (verdicts-length X full ∙ sym long) ∙ verdict-without i h (Kept plus_zero))

  pub counts-without : within (columns_of columns live) (full_run X (first_state rows columns k e observed live)).counts
      ≡ (full_run (map (within (columns_of columns live)) X) (first_state rows (size (columns_of columns live)) k e observed (full_mask (size (columns_of columns live))))).counts
  counts-without =
      let ns = (full_run X full).counts in
      let m : length (within L ns) ≡ size L = within-length L ns (counts-length X full ∙ sym long) in
      ext_get_or 0 (within L ns) (full_run (map (within L) X) part).counts (m ∙ sym (counts-length (map (within L) X) part))
      (λ i l. let h : i < size L = omega arith in within-at L ns i 0 h (counts-length X full ∙ sym long) ∙ count-at-part i h)
