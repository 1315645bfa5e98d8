-- Critical values never rise from step to step: what is left after a step, with k - 1 rejected columns put back, is a set of live columns
-- of which at most k - 1 were rejected before it.
--   InProgress X r     what holds before each step of a run
--   next_grows, next-inside, next-progress     the rejected set grows, stays among the live columns, and the run goes on
--   run-falls          no step's critical value is higher than that of the step before
use Prim.Native.Nat.{ℕ, zero, suc, ◌-◌, ◌≤◌, ◌<◌}
use native.Mathlib.Omega.{arith}
use mathlib.Core.Path.{◌≡◌, refl, sym, ◌∙◌, subst}
use mathlib.Core.Bool.{Bool, true, false, ◌||◌}
use mathlib.Core.List.{List, [], ◌∷◌}
use lib.ListN.{length}
use lib.Dec.{T, leb, le→leb}
use lib.Ieee.{Float}
use Rattle.order.specs.Order.{at_most}
use Rattle.order.proofs.Booleans.{or_left, true-T}
use Rattle.order.proofs.Keys.{key, at_most-le}
use Rattle.order.proofs.Rows.{Sound}
use Rattle.columns.specs.Columns.{Columns, size, ◌∪◌}
use Rattle.columns.proofs.Sets.{has, ◌⊆◌, ⊆-by, ⊆-at, ⊆-length, length-∪, has-∪}
use Rattle.columns.proofs.PutBack.{choose-sound, choose-some, size-put, put_in, put_meets}
use Rattle.method.specs.Method.{critical_value, put_back}
use Rattle.method.proofs.Critical.{put_back-under}
use Rattle.runs.specs.Stepdown.{live_set, rejected_set, first_state, critical_of, newly_rejected, next, record_of, steps_from, steps_of, left_over}
use Rattle.runs.specs.declared.State.{State}
use Rattle.runs.specs.declared.Step.{Step}
use Rattle.runs.proofs.Steps.{live-length, same_length, newly-lives, both-length, next-rejected, next-steps, critical-later, critical-finite, going_on}
use Rattle.runs.proofs.Covers.{critical-covers}
use Rattle.runs.proofs.Start.{first-empty}

-- what holds before each step
pub record InProgress (X : List (List Float)) (r : State) : Type 0 where
  pub sound : Sound r.columns X
  pub seen : r.observed < length X
  pub inside : rejected_set r ⊆ live_set r
  pub many : 0 < r.steps → r.k ≤ size (rejected_set r)
  pub tolerance : 0 < r.k
  pub rare : r.e < length X

module _ (X : List (List Float)) (r : State) (h : InProgress X r) where
  next_grows : rejected_set r ⊆ rejected_set (next X r)
  next_grows = rw (next-rejected X r h.sound h.seen)
      (⊆-by (rejected_set r) (rejected_set r ∪ newly_rejected X r) (sym (length-∪ (rejected_set r) (newly_rejected X r) same))
      (λ j t. subst (λ (b : Bool). T b) (sym (has-∪ (rejected_set r) (newly_rejected X r) same j)) (or_left (has (rejected_set r) j) (has (newly_rejected X r) j) t)))
    where
      same : length (rejected_set r) ≡ length (newly_rejected X r)
      same = both-length X r h.sound h.seen

  pub next-inside : rejected_set (next X r) ⊆ live_set r
  next-inside = rw (next-rejected X r h.sound h.seen)
      (⊆-by (rejected_set r ∪ newly_rejected X r) (live_set r) (length-∪ (rejected_set r) (newly_rejected X r) same ∙ sym (same_length r))
      (λ j t. go j (has (rejected_set r) j) refl (subst (λ (b : Bool). T b) (has-∪ (rejected_set r) (newly_rejected X r) same j) t)))
    where
      same : length (rejected_set r) ≡ length (newly_rejected X r)
      same = both-length X r h.sound h.seen

      go : (j : ℕ) (b : Bool) → has (rejected_set r) j ≡ b → T (b || has (newly_rejected X r) j) → T (has (live_set r) j)
      go j true e t = ⊆-at h.inside j (true-T (has (rejected_set r) j) e)
      go j false e t = newly-lives X r h.sound h.seen j t

  module _ (on : (next X r).ended ≡ false) where
    pub next-progress : InProgress X (next X r)
    unfolding next
    next-progress = record { sound = h.sound; seen = h.seen; inside = next-inside; many = λ _. (going_on X r h.sound h.seen on).many; tolerance = h.tolerance; rare = h.rare }

    -- what is left after the step, with k - 1 columns put back, is covered by the critical value before it
    put-covered : (I : Columns) → I ⊆ rejected_set (next X r) → size I ≡ r.k - 1 → key (critical_value r.k r.e X (left_over (next X r) ∪ I)) ≤ key (critical_of X r)
    unfolding critical_of next
    put-covered I s e =
        critical-covers r.k r.e r.k r.e X (live_set r) (subst (λ (n : ℕ). Sound n X) (sym (live-length r)) h.sound) h.tolerance (omega arith) h.rare (omega arith)
        (left_over (next X r) ∪ I) (rejected_set r) r.steps (put_in next-inside s) (sym (same_length r))
        (omega (arith, size-put (live_set r) s (sym (⊆-length next-inside)), (going_on X r h.sound h.seen on).left, h.tolerance))
        (λ p. (h.many p, omega (arith, put_meets (live_set r) next_grows s (sym (⊆-length next-inside)), h.tolerance)))

    next-later : critical_of X (next X r) ≡ put_back r.k r.e X (left_over (next X r)) (rejected_set (next X r))
    unfolding next
    next-later = critical-later X (next X r) (next-steps X r)

    critical-falls : key (critical_of X (next X r)) ≤ key (critical_of X r)
    critical-falls = subst (λ (c : Float). key c ≤ key (critical_of X r)) (sym next-later)
        (put_back-under r.columns r.k r.e X h.sound (left_over (next X r)) (rejected_set (next X r)) (key (critical_of X r))
        (choose-some (r.k - 1) (rejected_set (next X r)) (omega (arith, (going_on X r h.sound h.seen on).many)))
        (choose-sound (r.k - 1) (rejected_set (next X r)) (λ I. leb (key (critical_value r.k r.e X (left_over (next X r) ∪ I))) (key (critical_of X r)))
        (λ I s e. le→leb (key (critical_value r.k r.e X (left_over (next X r) ∪ I))) (key (critical_of X r)) (put-covered I s e))))

-- ---- a whole run

abbrev NoHigher : Float → List Step → Type 0
NoHigher c [] = Unit {0}
NoHigher c (s ∷ ss) = T (at_most s.logged.critical c)

-- no step's critical value is higher than that of the step before
abbrev pub Falling : List Step → Type 0
Falling [] = Unit {0}
Falling (s ∷ ss) = NoHigher s.logged.critical ss × Falling ss

module _ (X : List (List Float)) where
  next-lower : (m : ℕ) (b : Bool) (r : State) → InProgress X r → (next X r).ended ≡ b → NoHigher (critical_of X r) (steps_from m b X (next X r))
  unfolding steps_from record_of
  next-lower zero b r h e = tt
  next-lower (suc m) true r h e = tt
  next-lower (suc m) false r h e =
      let g = next-progress X r h e in
      at_most-le (critical_of X (next X r)) (critical_of X r) (critical-finite X (next X r) g.sound g.seen) (critical-finite X r h.sound h.seen) (critical-falls X r h e)

  steps-fall : (m : ℕ) (b : Bool) (r : State) → r.ended ≡ b → (b ≡ false → InProgress X r) → Falling (steps_from m b X r)
  unfolding steps_from record_of
  steps-fall zero b r e h = tt
  steps-fall (suc m) true r e h = tt
  steps-fall (suc m) false r e h = (
    next-lower m (next X r).ended r (h refl) refl,
    steps-fall m (next X r).ended (next X r) refl (λ on. next-progress X r (h refl) on),
  )

  module _ (rows columns k e observed live : ℕ) (sound : Sound columns X) (seen : observed < length X) (pos : 0 < k) (rare : e < length X) where
    pub first_progress : InProgress X (first_state rows columns k e observed live)
    first_progress = record {
      sound = sound;
      seen = seen;
      inside = ⊆-by (rejected_set s) (live_set s) (sym (same_length s)) (λ j u. absurd (subst (λ (c : Bool). T c) (first-empty rows columns k e observed live j) u));
      many = λ p. absurd (omega arith);
      tolerance = pos;
      rare = rare;
    }
      where
        s : State
        s = first_state rows columns k e observed live

    pub run-falls : Falling (steps_of X (first_state rows columns k e observed live))
    unfolding steps_of
    run-falls = steps-fall 32 (first_state rows columns k e observed live).ended (first_state rows columns k e observed live) refl (λ _. first_progress)
