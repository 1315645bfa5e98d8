-- What one step does, and how a fact passes from step to step.
--   critical-first, critical-later     the critical value of step 1, and of a later step
--   critical-keeps       what holds of every value and of plus zero holds of the critical value
--   next-rejected        the rejected set grows by the columns that the step rejects
--   ended-exactly        the stopping rule: a step ends the run exactly where it rejected nothing, fewer than k are rejected, or none is left
--   going_on             what holds where a step has not ended the run
--   takes-a-step         a run that has not ended takes a step, whatever e is
--   along                a fact that each step keeps holds after every step of a run
use Prim.Native.Nat.{ℕ, zero, suc, ◌≤◌, ◌<◌}
use native.Mathlib.Omega.{arith}
use mathlib.Core.Path.{◌≡◌, refl, sym, ap, ◌∙◌, subst}
use mathlib.Core.Logic.{◌↔◌, ◌⊎◌, inl, inr}
use mathlib.Core.Bool.{Bool, true, false, not, ◌||◌}
use mathlib.Core.List.{List, [], ◌∷◌}
use lib.ListN.{length, get_or, length-map}
use lib.Dec.{ltb, eqb, T}
use lib.Ieee.{Float}
use borrow.Author.Tests.{ltb-true, eqb-true, ltb-false, eqb-false, lt-ltb, eq-eqb}
use Rattle.order.specs.Order.{plus_zero, finite}
use Rattle.order.specs.Counting.{all}
use Rattle.order.proofs.Keys.{zero-finite}
use Rattle.order.proofs.Booleans.{and_left}
use Rattle.order.proofs.Counts.{all_get_d}
use Rattle.order.proofs.Rows.{Finite, Sound, sound_row, sound-length, sound-finite, sound-all}
use Rattle.refusals.proofs.Limits.{positive, or-none}
use Rattle.columns.specs.Columns.{Columns, size, ◌∪◌, ◌∩◌, ◌∖◌, over, in_set, columns_of, mask_of}
use Rattle.columns.proofs.Sets.{has, length-∪, length-∩, length-∖, has-∩, has-∖}
use Rattle.columns.proofs.Masks.{columns_of-length, columns_of-mask_of, has-columns_of}
use Rattle.method.specs.Method.{critical_value, put_back}
use Rattle.method.proofs.Critical.{critical_value-keeps, put_back-keeps}
use Rattle.runs.specs.Stepdown.{live_set, rejected_set, left_over, step_critical, critical_of, newly_rejected, ends_after, next, step, steps_from, steps_of}
use Rattle.runs.specs.declared.State.{State}
use Rattle.runs.specs.declared.Step.{Step}

abbrev pub seen_row : List (List Float) → State → List Float
seen_row X r = get_or X r.observed []

pub over-length : (c : Float) (row : List Float) → length (over c row) ≡ length row
unfolding over
over-length c row = length-map row _

-- a column of the rejected set, by its mask
pub at-column : (r : State) (j : ℕ) → j < r.columns → has (rejected_set r) j ≡ in_set r.rejected j
at-column r j h = has-columns_of r.columns r.rejected j h

pub live-length : (r : State) → length (live_set r) ≡ r.columns
live-length r = columns_of-length r.columns r.live

pub rejected-length : (r : State) → length (rejected_set r) ≡ r.columns
rejected-length r = columns_of-length r.columns r.rejected

pub same_length : (r : State) → length (live_set r) ≡ length (rejected_set r)
same_length r = live-length r ∙ sym (rejected-length r)

pub left-length : (r : State) → length (left_over r) ≡ r.columns
left-length r = length-∖ (live_set r) (rejected_set r) (same_length r) ∙ live-length r

-- ---- the first of the steps to come

pub takes-a-step : (X : List (List Float)) (r : State) → r.ended ≡ false → steps_of X r ≡ step X r ∷ steps_from 31 (next X r).ended X (next X r)
unfolding steps_of steps_from
takes-a-step X r h = rw h refl

-- ---- the stopping rule

module _ (k : ℕ) (live new R : Columns) where
  -- why a step ends the run
  abbrev pub Stops : Type 0
  Stops = (size new ≡ 0) ⊎ ((size R < k) ⊎ (size (live ∖ R) ≡ 0))

  pub ends-why : ends_after k live new R ≡ true → Stops
  unfolding ends_after
  ends-why h = go (eqb (size new) 0) (ltb (size R) k) (eqb (size (live ∖ R)) 0) refl refl refl h
    where
      go : (b c d : Bool) → eqb (size new) 0 ≡ b → ltb (size R) k ≡ c → eqb (size (live ∖ R)) 0 ≡ d → (b || (c || d)) ≡ true → Stops
      go true c d p q s h = inl (eqb-true (size new) 0 p)
      go false true d p q s h = inr (inl (ltb-true (size R) k q))
      go false false true p q s h = inr (inr (eqb-true (size (live ∖ R)) 0 s))
      go false false false p q s h = absurd (mathlib.Core.Bool.false≢true h)

  ends-then : Stops → ends_after k live new R ≡ true
  unfolding ends_after
  ends-then (inl z) = ap (λ (b : Bool). b || (ltb (size R) k || eqb (size (live ∖ R)) 0)) (eq-eqb (size new) 0 z)
  ends-then (inr (inl f)) = ap (λ (b : Bool). eqb (size new) 0 || (b || eqb (size (live ∖ R)) 0)) (lt-ltb (size R) k f) ∙ late (eqb (size new) 0)
    where
      late : (b : Bool) → (b || true) ≡ true
      late true = refl
      late false = refl
  ends-then (inr (inr z)) = ap (λ (b : Bool). eqb (size new) 0 || (ltb (size R) k || b)) (eq-eqb (size (live ∖ R)) 0 z) ∙ last (eqb (size new) 0) (ltb (size R) k)
    where
      last : (b c : Bool) → (b || (c || true)) ≡ true
      last true c = refl
      last false true = refl
      last false false = refl

  pub ends-not : ends_after k live new R ≡ false → (0 < size new) × (k ≤ size R) × (0 < size (live ∖ R))
  unfolding ends_after
  ends-not h =
      let f = or-none (eqb (size new) 0) (ltb (size R) k || eqb (size (live ∖ R)) 0) h in
      let g = or-none (ltb (size R) k) (eqb (size (live ∖ R)) 0) f.1 in
      (positive (size new) (eqb-false (size new) 0 f.0), ltb-false (size R) k g.0, positive (size (live ∖ R)) (eqb-false (size (live ∖ R)) 0 g.1))

-- ---- one step

module _ (X : List (List Float)) (r : State) where
  pub critical-first : r.steps ≡ 0 → critical_of X r ≡ critical_value r.k r.e X (live_set r)
  unfolding critical_of
  critical-first h = ap (λ (s : ℕ). step_critical r.k r.e X (live_set r) (rejected_set r) s) h

  pub critical-later : 0 < r.steps → critical_of X r ≡ put_back r.k r.e X (left_over r) (rejected_set r)
  unfolding critical_of
  critical-later h = go r.steps h
    where
      go : (s : ℕ) → 0 < s → step_critical r.k r.e X (live_set r) (rejected_set r) s ≡ put_back r.k r.e X (left_over r) (rejected_set r)
      go zero p = absurd (omega arith)
      go (suc s) p = refl

  pub next-steps : 0 < (next X r).steps
  unfolding next
  next-steps = omega arith

  pub newly-is : newly_rejected X r ≡ left_over r ∩ over (critical_of X r) (seen_row X r)
  unfolding newly_rejected
  newly-is = refl

  -- what holds of every value of the table and of plus zero holds of the critical value
  pub critical-keeps : (p : Float → Bool) → T (p plus_zero) → T (all (all p) X) → T (p (critical_of X r))
  unfolding critical_of step_critical
  critical-keeps p z h = go r.steps
    where
      go : (s : ℕ) → T (p (step_critical r.k r.e X (live_set r) (rejected_set r) s))
      go zero = critical_value-keeps p z r.k r.e X (live_set r) h
      go (suc s) = put_back-keeps p z r.k r.e X (left_over r) (rejected_set r) h

  ended-rule : (next X r).ended ≡ ends_after r.k (live_set r) (newly_rejected X r) (rejected_set r ∪ newly_rejected X r)
  unfolding next
  ended-rule = refl

  module _ (sound : Sound r.columns X) (seen : r.observed < length X) where
    row-sound : T (sound_row r.columns (seen_row X r))
    row-sound = all_get_d (sound_row r.columns) X r.observed [] seen sound

    pub seen-length : length (seen_row X r) ≡ r.columns
    seen-length = sound-length r.columns (seen_row X r) row-sound

    pub seen-finite : Finite (seen_row X r)
    seen-finite = sound-finite r.columns (seen_row X r) row-sound

    pub over-left : length (left_over r) ≡ length (over (critical_of X r) (seen_row X r))
    over-left = left-length r ∙ sym (over-length (critical_of X r) (seen_row X r) ∙ seen-length)

    -- what the step rejects was left before it, so it is live
    pub newly-lives : (j : ℕ) → T (has (newly_rejected X r) j) → T (has (live_set r) j)
    unfolding newly_rejected
    newly-lives j t =
        and_left (has (live_set r) j) (not (has (rejected_set r) j)) (subst (λ (b : Bool). T b) (has-∖ (live_set r) (rejected_set r) (same_length r) j)
        (and_left (has (left_over r) j) (has (over (critical_of X r) (seen_row X r)) j)
        (subst (λ (b : Bool). T b) (has-∩ (left_over r) (over (critical_of X r) (seen_row X r)) over-left j) t)))

    pub newly-length : length (newly_rejected X r) ≡ r.columns
    unfolding newly_rejected
    newly-length = length-∩ (left_over r) (over (critical_of X r) (seen_row X r)) over-left ∙ left-length r

    pub both-length : length (rejected_set r) ≡ length (newly_rejected X r)
    both-length = rejected-length r ∙ sym newly-length

    pub next-rejected : rejected_set (next X r) ≡ rejected_set r ∪ newly_rejected X r
    unfolding next
    next-rejected = ap (λ (m : ℕ). columns_of m (mask_of (rejected_set r ∪ newly_rejected X r))) (sym (length-∪ (rejected_set r) (newly_rejected X r) both-length ∙ rejected-length r)) ∙ columns_of-mask_of (rejected_set r ∪ newly_rejected X r)

    pub critical-finite : T (finite (critical_of X r))
    critical-finite = critical-keeps finite zero-finite (sound-all r.columns X sound)

    -- the rule is applied to what is rejected and left after the step
    ended_is : (next X r).ended ≡ ends_after r.k (live_set r) (newly_rejected X r) (rejected_set (next X r))
    ended_is = ended-rule ∙ ap (ends_after r.k (live_set r) (newly_rejected X r)) (sym next-rejected)

    pub ended-exactly : ((next X r).ended ≡ true) ↔ ((size (newly_rejected X r) ≡ 0) ⊎ ((size (rejected_set (next X r)) < r.k) ⊎ (size (left_over (next X r)) ≡ 0)))
    unfolding next
    ended-exactly = (λ h. ends-why r.k (live_set r) (newly_rejected X r) (rejected_set (next X r)) (sym ended_is ∙ h), λ s. ended_is ∙ ends-then r.k (live_set r) (newly_rejected X r) (rejected_set (next X r)) s)

    -- where the step has not ended the run it rejected something, k or more are rejected in all, and some are left
    pub record GoingOn : Type 0 where
      pub rejects : 0 < size (newly_rejected X r)
      pub many : r.k ≤ size (rejected_set (next X r))
      pub left : 0 < size (left_over (next X r))

    pub going_on : (next X r).ended ≡ false → GoingOn
    unfolding next
    going_on h =
        let f = ends-not r.k (live_set r) (newly_rejected X r) (rejected_set (next X r)) (sym ended_is ∙ h) in
        record { rejects = f.0; many = f.1; left = f.2 }

-- ---- from step to step

abbrev pub EachStep : (Step → Type 0) → List Step → Type 0
EachStep Q [] = Unit {0}
EachStep Q (s ∷ ss) = Q s × EachStep Q ss

pub along : (X : List (List Float)) (P : State → Type 0) (Q : Step → Type 0)
    → ((r : State) → P r → r.ended ≡ false → P (next X r))
    → ((r : State) → P r → r.ended ≡ false → Q (step X r))
    → (m : ℕ) (b : Bool) (r : State) → r.ended ≡ b → P r → EachStep Q (steps_from m b X r)
unfolding steps_from
along X P Q keep show zero b r e p = tt
along X P Q keep show (suc m) true r e p = tt
along X P Q keep show (suc m) false r e p =
    (show r p e, along X P Q keep show m (next X r).ended (next X r) refl (keep r p e))
