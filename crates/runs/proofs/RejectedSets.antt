-- The method by rejected sets alone: what a step rejects, and what is rejected in the end, from the live columns and the observed row.
--   step_rejects k e X live row R s    the columns that the step after s steps rejects, R being rejected so far and `row` observed
--   rejected_from n ended k e X live row R s    what is rejected in the end, at most n steps on; `ended` is whether the run has
--   rejected_set_at k e X live o       the columns that the method rejects at e, row o being observed
--   step_in, step-out     what a step rejects lies above its critical value, and what it leaves does not
--   grown-by              what holds of R's columns and of those that the step rejects holds of both
--   Before, Ended         what holds before each step, and at the end: no column that is left lies above the critical value of a further step
--   row-sound             the observed row is one of the table's
--   at-keeps, at-ends     a fact that each step keeps holds of what is rejected in the end; and the run has ended there
--   rejected-live         what is rejected in the end is live
use Prim.Native.Nat.{ℕ, zero, suc, ◌+◌, ◌≤◌, ◌<◌}
use native.Mathlib.Omega.{arith}
use mathlib.Core.Path.{◌≡◌, refl, sym, ap, ◌∙◌, subst}
use mathlib.Core.Logic.{inl, inr}
use mathlib.Core.Bool.{Bool, true, false, ◌&&◌, ◌||◌}
use mathlib.Core.List.{List, [], map}
use lib.ListN.{length, get_or, length-map}
use lib.Dec.{ltb, T, ltb→lt, lt→ltb}
use lib.Ieee.{Float, nan}
use Rattle.order.specs.Order.{finite}
use Rattle.order.proofs.Booleans.{and_left, and_right, and_both, or_left, or_right, not-below, never}
use Rattle.order.proofs.Keys.{key, smaller-key, zero-finite}
use Rattle.order.proofs.Counts.{all_get_d}
use Rattle.order.proofs.Rows.{Sound, sound_row, sound-length, sound-finite, sound-all}
use Rattle.columns.specs.Columns.{Columns, size, ◌∪◌, ◌∩◌, ◌∖◌, over}
use Rattle.columns.proofs.Sets.{has, has-length, ◌⊆◌, ⊆-by, ⊆-at, ⊆-length, length-∪, length-∩, length-∖, has-∪, has-∩, has-over, size_mono, size-length, empty-size, empty-under}
use Rattle.columns.proofs.Remaining.{remains, remains-some, left_after, nothing-new}
use Rattle.method.specs.Method.{critical_value, put_back}
use Rattle.method.proofs.Critical.{critical_value-keeps, put_back-keeps}
use Rattle.runs.specs.Stepdown.{step_critical, ends_after}
use Rattle.runs.proofs.Steps.{over-length, Stops, ends-why, ends-not}

unfoldable pub step_rejects : ℕ → ℕ → List (List Float) → Columns → List Float → Columns → ℕ → Columns
unfolding step_critical over ◌∖◌ ◌∩◌
step_rejects k e X live row R s = (live ∖ R) ∩ over (step_critical k e X live R s) row

unfoldable pub rejected_from : ℕ → Bool → ℕ → ℕ → List (List Float) → Columns → List Float → Columns → ℕ → Columns
unfolding step_rejects ends_after ◌∪◌
rejected_from zero ended k e X live row R s = R
rejected_from (suc n) true k e X live row R s = R
rejected_from (suc n) false k e X live row R s =
    let new = step_rejects k e X live row R s in
    let R' = R ∪ new in
    rejected_from n (ends_after k live new R') k e X live row R' (suc s)

-- 32 steps are enough, as in a full run
unfoldable pub rejected_set_at : ℕ → ℕ → List (List Float) → Columns → ℕ → Columns
unfolding rejected_from
rejected_set_at k e X live o = rejected_from 32 false k e X live (get_or X o []) (map (λ _. false) live) 0

-- ---- one step

module _ (k e : ℕ) (X : List (List Float)) (live : Columns) (row : List Float) (sound : Sound (length live) X) (seen : T (sound_row (length live) row)) where
  critical-finite : (R : Columns) (s : ℕ) → T (finite (step_critical k e X live R s))
  unfolding step_critical
  critical-finite R zero = critical_value-keeps finite zero-finite k e X live (sound-all (length live) X sound)
  critical-finite R (suc s) = put_back-keeps finite zero-finite k e X (live ∖ R) R (sound-all (length live) X sound)

  module _ (R : Columns) (s : ℕ) (h : length R ≡ length live) where
    abbrev c : Float
    c = step_critical k e X live R s

    O-length : length (over (step_critical k e X live R s) row) ≡ length live
    O-length = over-length c row ∙ sound-length (length live) row seen

    left-length : length (live ∖ R) ≡ length live
    left-length = length-∖ live R (sym h)

    new-length : length (step_rejects k e X live row R s) ≡ length live
    unfolding step_rejects
    new-length = length-∩ (live ∖ R) (over c row) (left-length ∙ sym O-length) ∙ left-length

    has_new : (j : ℕ) → j < length live → has (step_rejects k e X live row R s) j ≡ (has (live ∖ R) j && ltb (key (step_critical k e X live R s)) (key (get_or row j nan)))
    unfolding step_rejects
    has_new j l =
        has-∩ (live ∖ R) (over c row) (left-length ∙ sym O-length) j
        ∙ ap (λ (b : Bool). has (live ∖ R) j && b) (has-over c row j in_row ∙ smaller-key c (get_or row j nan) (critical-finite R s) (all_get_d finite row j nan in_row (sound-finite (length live) row seen)))
      where
        in_row : j < length row
        in_row = omega (arith, sound-length (length live) row seen)

    -- what the step rejects is live, was not rejected before, and lies above its critical value
    pub step_in : (j : ℕ) → T (has (step_rejects k e X live row R s) j) → (T (has live j) × (T (has R j) → ⊥)) × (key (step_critical k e X live R s) < key (get_or row j nan))
    step_in j t =
        let u : T (has (live ∖ R) j && ltb (key c) (key (get_or row j nan))) = subst (λ (b : Bool). T b) (has_new j (omega (arith, has-length (step_rejects k e X live row R s) j t, new-length))) t in (
          (remains live R (sym h) j).0 (and_left (has (live ∖ R) j) (ltb (key c) (key (get_or row j nan))) u),
          ltb→lt (key c) (key (get_or row j nan)) (and_right (has (live ∖ R) j) (ltb (key c) (key (get_or row j nan))) u),
        )

    -- what is left after it does not
    pub step-out : (j : ℕ) → T (has live j) → (T (has R j) → ⊥) → (T (has (step_rejects k e X live row R s) j) → ⊥) → key (get_or row j nan) ≤ key (step_critical k e X live R s)
    step-out j t u f = not-below (key c) (key (get_or row j nan)) (λ g. f (subst (λ (b : Bool). T b) (sym (has_new j (has-length live j t)))
        (and_both (has (live ∖ R) j) (ltb (key c) (key (get_or row j nan))) ((remains live R (sym h) j).1 (t, u)) (lt→ltb (key c) (key (get_or row j nan)) g))))

    grown-length : length (R ∪ step_rejects k e X live row R s) ≡ length live
    grown-length = length-∪ R (step_rejects k e X live row R s) (h ∙ sym new-length) ∙ h

    has-grown : (j : ℕ) → has (R ∪ step_rejects k e X live row R s) j ≡ (has R j || has (step_rejects k e X live row R s) j)
    has-grown j = has-∪ R (step_rejects k e X live row R s) (h ∙ sym new-length) j

    pub grown-by : (L : Columns) → length L ≡ length live → ((j : ℕ) → T (has R j) → T (has L j)) → ((j : ℕ) → T (has (step_rejects k e X live row R s) j) → T (has L j)) → (R ∪ step_rejects k e X live row R s) ⊆ L
    grown-by L l f g = ⊆-by (R ∪ step_rejects k e X live row R s) L (grown-length ∙ sym l)
        (λ j t. go (has R j) (has (step_rejects k e X live row R s) j) (f j) (g j) (subst (λ (b : Bool). T b) (has-grown j) t))
      where
        go : {Q : Type 0} (a b : Bool) → (T a → Q) → (T b → Q) → T (a || b) → Q
        go true b f g t = f t
        go false b f g t = g t

    grows : R ⊆ (R ∪ step_rejects k e X live row R s)
    grows = ⊆-by R (R ∪ step_rejects k e X live row R s) (h ∙ sym grown-length) (λ j t. subst (λ (b : Bool). T b) (sym (has-grown j)) (or_left (has R j) (has (step_rejects k e X live row R s) j) t))

    falls : size (live ∖ (R ∪ step_rejects k e X live row R s)) + size (step_rejects k e X live row R s) ≡ size (live ∖ R)
    unfolding step_rejects
    falls = left_after live R (over c row) (h ∙ sym O-length)

-- ---- a run

module _ (k e : ℕ) (X : List (List Float)) (live : Columns) (row : List Float) where
  pub record Before (R : Columns) (s : ℕ) : Type 0 where
    pub inside : R ⊆ live
    pub first : s ≡ 0 → size R ≡ 0
    pub many : 0 < s → k ≤ size R

  pub record Ended (R : Columns) : Type 0 where
    pub inside : R ⊆ live
    pub few : size R < k → (j : ℕ) → T (has live j) → (T (has R j) → ⊥) → key (get_or row j nan) ≤ key (critical_value k e X live)
    pub many : k ≤ size R → (j : ℕ) → T (has live j) → (T (has R j) → ⊥) → key (get_or row j nan) ≤ key (put_back k e X (live ∖ R) R)

  module _ (sound : Sound (length live) X) (seen : T (sound_row (length live) row)) where
    module _ (R : Columns) (s : ℕ) (b : Before R s) where
      len : length R ≡ length live
      len = ⊆-length b.inside

      abbrev N : Columns
      N = step_rejects k e X live row R s

      abbrev R' : Columns
      R' = R ∪ step_rejects k e X live row R s

      in-live : (R ∪ step_rejects k e X live row R s) ⊆ live
      in-live = grown-by k e X live row sound seen R s len live refl (⊆-at b.inside) (λ j t. (step_in k e X live row sound seen R s len j t).0.0)

      after-step : ends_after k live (step_rejects k e X live row R s) (R ∪ step_rejects k e X live row R s) ≡ false → Before (R ∪ step_rejects k e X live row R s) (suc s)
      after-step q = record { inside = in-live; first = λ z. absurd (omega arith); many = λ _. (ends-not k live N R' q).1 }

      -- where k or more are rejected and some are left, a step that ends the run rejected nothing
      nothing : k ≤ size (R ∪ step_rejects k e X live row R s) → 0 < size (live ∖ (R ∪ step_rejects k e X live row R s)) → Stops k live (step_rejects k e X live row R s) (R ∪ step_rejects k e X live row R s) → size (step_rejects k e X live row R s) ≡ 0
      nothing m left (inl z) = z
      nothing m left (inr (inl f)) = absurd (omega arith)
      nothing m left (inr (inr z)) = absurd (omega arith)

      at-end : ends_after k live (step_rejects k e X live row R s) (R ∪ step_rejects k e X live row R s) ≡ true → 0 < k → Ended (R ∪ step_rejects k e X live row R s)
      unfolding step_critical
      at-end q pos = record { inside = in-live; few = few-left s b.many refl; many = many-left }
        where
          low : (j : ℕ) → T (has live j) → (T (has R' j) → ⊥) → key (get_or row j nan) ≤ key (step_critical k e X live R s)
          low j t u = step-out k e X live row sound seen R s len j t (λ w. u (⊆-at (grows k e X live row sound seen R s len) j w))
              (λ w. u (subst (λ (c : Bool). T c) (sym (has-grown k e X live row sound seen R s len j)) (or_right (has R j) (has N j) w)))

          few-left : (i : ℕ) → (0 < i → k ≤ size R) → i ≡ s → size R' < k → (j : ℕ) → T (has live j) → (T (has R' j) → ⊥) → key (get_or row j nan) ≤ key (critical_value k e X live)
          few-left zero many i f j t u = subst (λ (m : ℕ). key (get_or row j nan) ≤ key (step_critical k e X live R m)) (sym i) (low j t u)
          few-left (suc m) many i f j t u = absurd (omega (arith, many (omega arith), size_mono (grows k e X live row sound seen R s len)))

          many-left : k ≤ size R' → (j : ℕ) → T (has live j) → (T (has R' j) → ⊥) → key (get_or row j nan) ≤ key (put_back k e X (live ∖ R') R')
          many-left m j t u = rw same (later s b.first refl)
            where
              same : R' ≡ R
              same = nothing-new R N (len ∙ sym (new-length k e X live row sound seen R s len)) (nothing m (remains-some live R' (sym (⊆-length in-live)) j t u) (ends-why k live N R' q))

              later : (i : ℕ) → (i ≡ 0 → size R ≡ 0) → i ≡ s → key (get_or row j nan) ≤ key (put_back k e X (live ∖ R) R)
              later zero z i = absurd (omega (arith, z refl, ap size same))
              later (suc n) z i = subst (λ (m : ℕ). key (get_or row j nan) ≤ key (step_critical k e X live R m)) (sym i) (low j t u)

    -- a fact that each step keeps holds at the end
    keeps : (P : Columns → Type 0) → ((R : Columns) (s : ℕ) → Before R s → P R → P (R ∪ step_rejects k e X live row R s))
        → (n : ℕ) (b : Bool) (R : Columns) (s : ℕ) → (b ≡ false → Before R s) → P R → P (rejected_from n b k e X live row R s)
    unfolding rejected_from
    keeps P f zero b R s h p = p
    keeps P f (suc n) true R s h p = p
    keeps P f (suc n) false R s h p = keeps P f n (ends_after k live (step_rejects k e X live row R s) (R ∪ step_rejects k e X live row R s)) (R ∪ step_rejects k e X live row R s) (suc s) (after-step R s (h refl)) (f R s (h refl) p)

    -- as many steps as there are columns left end the run
    ends : 0 < k → (n : ℕ) (b : Bool) (R : Columns) (s : ℕ) → (b ≡ true → Ended R) → (b ≡ false → Before R s) → (b ≡ false → size (live ∖ R) ≤ n) → Ended (rejected_from n b k e X live row R s)
    unfolding rejected_from
    ends pos zero true R s d h l = d refl
    ends pos zero false R s d h l = record {
      inside = (h refl).inside;
      few = λ _ j t u. absurd (omega (arith, l refl, remains-some live R (sym (⊆-length (h refl).inside)) j t u));
      many = λ _ j t u. absurd (omega (arith, l refl, remains-some live R (sym (⊆-length (h refl).inside)) j t u));
    }
    ends pos (suc n) true R s d h l = d refl
    ends pos (suc n) false R s d h l = ends pos n (ends_after k live (step_rejects k e X live row R s) (R ∪ step_rejects k e X live row R s)) (R ∪ step_rejects k e X live row R s) (suc s)
        (λ q. at-end R s (h refl) q pos) (after-step R s (h refl))
        (λ q. omega (arith, l refl, falls k e X live row sound seen R s (⊆-length (h refl).inside), (ends-not k live (step_rejects k e X live row R s) (R ∪ step_rejects k e X live row R s) q).0))

-- ---- the method at e

module _ (k e : ℕ) (X : List (List Float)) (live : Columns) (o : ℕ) (sound : Sound (length live) X) (seen : o < length X) where
  pub row-sound : T (sound_row (length live) (get_or X o []))
  row-sound = all_get_d (sound_row (length live)) X o [] seen sound

  start : Before k e X live (get_or X o []) (map (λ _. false) live) 0
  start = record { inside = empty-under live live refl; first = λ _. empty-size live; many = λ p. absurd (omega arith) }

  pub at-keeps : (P : Columns → Type 0) → ((R : Columns) (s : ℕ) → Before k e X live (get_or X o []) R s → P R → P (R ∪ step_rejects k e X live (get_or X o []) R s))
      → P (map (λ _. false) live) → P (rejected_set_at k e X live o)
  unfolding rejected_set_at
  at-keeps P f p = keeps k e X live (get_or X o []) sound row-sound P f 32 false (map (λ _. false) live) 0 (λ _. start) p

  pub rejected-live : rejected_set_at k e X live o ⊆ live
  rejected-live = at-keeps (λ R. R ⊆ live)
      (λ R s b sub. grown-by k e X live (get_or X o []) sound row-sound R s (⊆-length sub) live refl (⊆-at sub) (λ j t. (step_in k e X live (get_or X o []) sound row-sound R s (⊆-length sub) j t).0.0))
      (empty-under live live refl)

  pub at-ends : 0 < k → length live ≤ 32 → Ended k e X live (get_or X o []) (rejected_set_at k e X live o)
  unfolding rejected_set_at
  at-ends pos narrow = ends k e X live (get_or X o []) sound row-sound pos 32 false (map (λ _. false) live) 0 (λ q. absurd (never true (sym q) tt)) (λ _. start)
      (λ _. omega (arith, size-length (live ∖ map (λ _. false) live), length-∖ live (map (λ _. false) live) (sym (length-map live _))))
