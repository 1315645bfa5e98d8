-- 32 steps are enough: each step that does not end the run rejects a column, so as many steps as there are columns end every run.
--   last_state      the state after the last of some steps
--   left-falls      what a step leaves, and what it rejects, were left before it
--   run_ends        the full run has ended: the bound of 32 steps is never what ends it
--   steps-few       a full run has at most 32 steps
use Prim.Native.Nat.{ℕ, zero, suc, ◌+◌, ◌≤◌, ◌<◌}
use native.Mathlib.Omega.{arith}
use mathlib.Core.Path.{◌≡◌, refl, sym, ap, ◌∙◌}
use mathlib.Core.Bool.{Bool, true, false, true≢false}
use mathlib.Core.List.{List, [], ◌∷◌}
use lib.ListN.{length}
use lib.Ieee.{Float}
use Rattle.order.proofs.Rows.{Sound}
use Rattle.columns.specs.Columns.{Columns, size, ◌∪◌, ◌∖◌, over, columns_of}
use Rattle.columns.proofs.Sets.{size-length}
use Rattle.columns.proofs.Remaining.{left_after}
use Rattle.columns.proofs.Masks.{columns_of-length}
use Rattle.runs.specs.Stepdown.{live_set, rejected_set, first_state, critical_of, newly_rejected, next, steps_from, steps_of, left_over}
use Rattle.runs.specs.declared.State.{State}
use Rattle.runs.specs.declared.Step.{Step}
use Rattle.runs.proofs.Steps.{seen_row, over-length, rejected-length, seen-length, newly-is, next-rejected, going_on}
use Rattle.runs.proofs.Start.{first-left, first-open}

-- ---- the last state

unfoldable pub last_state : State → List Step → State
last_state r [] = r
last_state r (s ∷ ss) = last_state s.state ss

module _ (X : List (List Float)) (r : State) (sound : Sound r.columns X) (seen : r.observed < length X) where
  pub left-falls : size (left_over (next X r)) + size (newly_rejected X r) ≡ size (left_over r)
  unfolding next
  left-falls =
      ap (λ (R : Columns). size (live_set r ∖ R) + size (newly_rejected X r)) (next-rejected X r sound seen)
      ∙ ap (λ (new : Columns). size (live_set r ∖ (rejected_set r ∪ new)) + size new) (newly-is X r)
      ∙ left_after (live_set r) (rejected_set r) (over (critical_of X r) (seen_row X r)) (rejected-length r ∙ sym (over-length (critical_of X r) (seen_row X r) ∙ seen-length X r sound seen))

stopped : (X : List (List Float)) (m : ℕ) (b : Bool) (r : State) → r.ended ≡ b → r.ended ≡ true → (last_state r (steps_from m b X r)).ended ≡ true
unfolding steps_from last_state
stopped X zero b r e q = q
stopped X (suc m) true r e q = q
stopped X (suc m) false r e q = absurd (true≢false (sym q ∙ e))

ends : (X : List (List Float)) (m : ℕ) (b : Bool) (r : State) → r.ended ≡ b → Sound r.columns X → r.observed < length X → (b ≡ false → 0 < size (left_over r)) → size (left_over r) ≤ m → (last_state r (steps_from m b X r)).ended ≡ true
unfolding steps_from last_state next
ends X zero true r e sound seen some h = e
ends X zero false r e sound seen some h = absurd (omega (arith, some refl))
ends X (suc m) true r e sound seen some h = e
ends X (suc m) false r e sound seen some h = go (next X r).ended refl (λ s f. ends X m (next X r).ended (next X r) refl sound seen s f)
  where
    go : (b : Bool) → (next X r).ended ≡ b
        → (((next X r).ended ≡ false → 0 < size (left_over (next X r))) → size (left_over (next X r)) ≤ m → (last_state (next X r) (steps_from m (next X r).ended X (next X r))).ended ≡ true)
        → (last_state (next X r) (steps_from m (next X r).ended X (next X r))).ended ≡ true
    go true q on = stopped X m (next X r).ended (next X r) refl q
    go false q on =
        let g = going_on X r sound seen q in
        on (λ _. g.left) (omega (arith, left-falls X r sound seen, g.rejects))

pub run_ends : (X : List (List Float)) (rows columns k e observed live : ℕ) → Sound columns X → observed < length X → 0 < k → columns ≤ 32
    → let s = first_state rows columns k e observed live in (last_state s (steps_of X s)).ended ≡ true
unfolding steps_of
run_ends X rows columns k e observed live sound seen pos narrow =
    let s = first_state rows columns k e observed live in
    ends X 32 s.ended s refl sound seen
    (λ h. omega (arith, first-left rows columns k e observed live, first-open rows columns k e observed live h))
    (omega (arith, first-left rows columns k e observed live, size-length (columns_of columns live), columns_of-length columns live))

-- ---- at most 32 steps

steps-at-most : (X : List (List Float)) (m : ℕ) (b : Bool) (r : State) → length (steps_from m b X r) ≤ m
unfolding steps_from
steps-at-most X zero b r = omega arith
steps-at-most X (suc m) true r = omega arith
steps-at-most X (suc m) false r = omega (arith, steps-at-most X m (next X r).ended (next X r))

pub steps-few : (X : List (List Float)) (r : State) → length (steps_of X r) ≤ 32
unfolding steps_of
steps-few X r = steps-at-most X 32 r.ended r
