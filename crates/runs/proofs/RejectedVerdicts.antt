-- The verdicts of a full run, by rejected sets alone.
--   verdict-at       where k or more columns are live, a column's verdict is rejected exactly where the method rejects it at the run's e
--   too-few-none, few-reject-none     where fewer are, no step is taken and no column is rejected
use Prim.Native.Nat.{ℕ, zero, suc, ◌+◌, ◌≤◌, ◌<◌}
use native.Mathlib.Numerals.{add-one}
use native.Mathlib.Omega.{arith}
use mathlib.Core.Path.{◌≡◌, refl, sym, ap, ap₂, ◌∙◌, subst}
use mathlib.Core.Bool.{Bool, true, false, cond, ◌&&◌}
use mathlib.Core.List.{List, [], map}
use lib.ListN.{length, get_or}
use lib.Dec.{T}
use lib.Ieee.{Float}
use borrow.Author.Tests.{lt-ltb, le-ltb}
use Rattle.order.specs.Order.{plus_zero}
use Rattle.order.specs.Counting.{count}
use Rattle.order.proofs.Booleans.{same_test, and_right, and_both, or_left, never, true-T, T_true}
use Rattle.order.proofs.Counts.{count_below-le, count_below-none, count_below-list}
use Rattle.order.proofs.Rows.{Sound}
use Rattle.columns.specs.Columns.{Columns, size, ◌∪◌, in_set, columns_of}
use Rattle.columns.proofs.Sets.{has, has-∪, ⊆-at}
use Rattle.columns.proofs.Masks.{columns_of-length, columns_of-none, has-columns_of}
use Rattle.runs.specs.Stepdown.{live_set, rejected_set, first_state, critical_of, newly_rejected, ends_after, next, record_of, steps_from, steps_of, verdict_from, verdict_of, full_run}
use Rattle.runs.specs.FullRuns.{is_rejected}
use Rattle.runs.specs.declared.State.{State}
use Rattle.runs.specs.declared.Verdict.TheVariants.{Rejected, Kept}
use Rattle.runs.proofs.Steps.{seen_row, at-column, both-length, next-rejected}
use Rattle.runs.proofs.Start.{first-empty}
use Rattle.runs.proofs.Termination.{last_state}
use Rattle.runs.proofs.RejectedSets.{step_rejects, rejected_from, rejected_set_at, rejected-live}
use Rattle.runs.proofs.ToldColumns.{verdicts-length, rejected-told}

-- ---- from step to step

module _ (X : List (List Float)) where
  step_is : (r : State) → step_rejects r.k r.e X (live_set r) (seen_row X r) (rejected_set r) r.steps ≡ newly_rejected X r
  unfolding step_rejects newly_rejected critical_of
  step_is r = refl

  turn : (n : ℕ) (r : State) → Sound r.columns X → r.observed < length X
      → rejected_from n (ends_after r.k (live_set r) (newly_rejected X r) (rejected_set r ∪ newly_rejected X r)) r.k r.e X (live_set r) (seen_row X r) (rejected_set r ∪ newly_rejected X r) (suc r.steps)
      ≡ rejected_from n (next X r).ended (next X r).k (next X r).e X (live_set (next X r)) (seen_row X (next X r)) (rejected_set (next X r)) (next X r).steps
  unfolding next
  turn n r sound seen = ap₂ (λ (R : Columns) (s : ℕ). rejected_from n (next X r).ended r.k r.e X (live_set r) (seen_row X r) R s) (sym (next-rejected X r sound seen)) (sym (add-one r.steps))

  -- what is rejected after the last step
  last_set : (n : ℕ) (b : Bool) (r : State) → Sound r.columns X → r.observed < length X
      → rejected_from n b r.k r.e X (live_set r) (seen_row X r) (rejected_set r) r.steps ≡ rejected_set (last_state r (steps_from n b X r))
  unfolding rejected_from steps_from last_state next
  last_set zero b r sound seen = refl
  last_set (suc n) true r sound seen = refl
  last_set (suc n) false r sound seen =
      ap (λ (N : Columns). rejected_from n (ends_after r.k (live_set r) N (rejected_set r ∪ N)) r.k r.e X (live_set r) (seen_row X r) (rejected_set r ∪ N) (suc r.steps)) (step_is r)
      ∙ turn n r sound seen ∙ last_set n (next X r).ended (next X r) sound seen

  -- a column that is rejected stays so
  stays : (n : ℕ) (b : Bool) (r : State) (j : ℕ) → Sound r.columns X → r.observed < length X → T (has (rejected_set r) j) → T (has (rejected_set (last_state r (steps_from n b X r))) j)
  unfolding steps_from last_state next
  stays zero b r j sound seen t = t
  stays (suc n) true r j sound seen t = t
  stays (suc n) false r j sound seen t = stays n (next X r).ended (next X r) j sound seen
      (subst (λ (R : Columns). T (has R j)) (sym (next-rejected X r sound seen))
      (subst (λ (b : Bool). T b) (sym (has-∪ (rejected_set r) (newly_rejected X r) (both-length X r sound seen) j)) (or_left (has (rejected_set r) j) (has (newly_rejected X r) j) t)))

  verdict-last : (n : ℕ) (b : Bool) (r : State) (last : Float) (j : ℕ) → Sound r.columns X → r.observed < length X → j < r.columns → has (rejected_set r) j ≡ false
      → is_rejected (verdict_from last (steps_from n b X r) j) ≡ has (rejected_set (last_state r (steps_from n b X r))) j
  unfolding steps_from last_state next record_of
  verdict-last zero b r last j sound seen h q = sym q
  verdict-last (suc n) true r last j sound seen h q = sym q
  verdict-last (suc n) false r last j sound seen h q =
      go (in_set (next X r).rejected j) refl (verdict-last n (next X r).ended (next X r) (critical_of X r) j sound seen h)
    where
      at : has (rejected_set (next X r)) j ≡ in_set (next X r).rejected j
      at = at-column (next X r) j h

      go : (c : Bool) → in_set (next X r).rejected j ≡ c
          → (has (rejected_set (next X r)) j ≡ false → is_rejected (verdict_from (critical_of X r) (steps_from n (next X r).ended X (next X r)) j) ≡ has (rejected_set (last_state (next X r) (steps_from n (next X r).ended X (next X r)))) j)
          → is_rejected (cond c (Rejected (r.steps + 1) (critical_of X r)) (verdict_from (critical_of X r) (steps_from n (next X r).ended X (next X r)) j))
          ≡ has (rejected_set (last_state (next X r) (steps_from n (next X r).ended X (next X r)))) j
      go true e on = sym (T_true (has (rejected_set (last_state (next X r) (steps_from n (next X r).ended X (next X r)))) j)
          (stays n (next X r).ended (next X r) j sound seen (true-T (has (rejected_set (next X r)) j) (at ∙ e))))
      go false e on = on (at ∙ e)

-- ---- a full run

module _ (X : List (List Float)) (rows columns k e observed live : ℕ) (j : ℕ) (h : j < columns) where
  abbrev first : State
  first = first_state rows columns k e observed live

  first-set : rejected_set (first_state rows columns k e observed live) ≡ map (λ _. false) (columns_of columns live)
  first-set = ap (λ (n : ℕ). columns_of n 0) (sym (columns_of-length columns live)) ∙ columns_of-none (columns_of columns live)

  by-steps : Sound columns X → observed < length X → (n : ℕ)
      → is_rejected (verdict_from plus_zero (steps_from n false X (first_state rows columns k e observed live)) j) ≡ has (rejected_from n false k e X (columns_of columns live) (get_or X observed []) (map (λ _. false) (columns_of columns live)) 0) j
  by-steps sound seen n =
      verdict-last X n false first plus_zero j sound seen h (first-empty rows columns k e observed live j)
      ∙ ap (λ (R : Columns). has R j) (sym (last_set X n false first sound seen) ∙ ap (λ (R : Columns). rejected_from n false k e X (columns_of columns live) (get_or X observed []) R 0) first-set)

  run-verdict : (b : Bool) → (first_state rows columns k e observed live).ended ≡ b
      → is_rejected (get_or (full_run X (first_state rows columns k e observed live)).verdicts j (Kept plus_zero))
      ≡ (in_set live j && is_rejected (verdict_from plus_zero (steps_from 32 b X (first_state rows columns k e observed live)) j))
  unfolding steps_of verdict_of
  run-verdict b q = rejected-told X first j h (Kept plus_zero) ∙ ap (λ (b : Bool). in_set live j && is_rejected (verdict_from plus_zero (steps_from 32 b X first) j)) q

  is_live : Sound columns X → observed < length X → T (has (rejected_set_at k e X (columns_of columns live) observed) j) → T (in_set live j)
  is_live sound seen t = subst (λ (b : Bool). T b) (has-columns_of columns live j h)
      (⊆-at (rejected-live k e X (columns_of columns live) observed (subst (λ (n : ℕ). Sound n X) (sym (columns_of-length columns live)) sound) seen) j t)

  pub verdict-at : Sound columns X → observed < length X → k ≤ size (columns_of columns live)
      → is_rejected (get_or (full_run X (first_state rows columns k e observed live)).verdicts j (Kept plus_zero)) ≡ has (rejected_set_at k e X (columns_of columns live) observed) j
  unfolding rejected_set_at
  verdict-at sound seen held =
      run-verdict false (le-ltb (size (columns_of columns live)) k held)
      ∙ ap (λ (b : Bool). in_set live j && b) (by-steps sound seen 32)
      ∙ same_test (in_set live j && R) R (and_right (in_set live j) R) (λ t. and_both (in_set live j) R (is_live sound seen t) t)
    where
      R : Bool
      R = has (rejected_set_at k e X (columns_of columns live) observed) j

  pub too-few-none : size (columns_of columns live) < k → is_rejected (get_or (full_run X (first_state rows columns k e observed live)).verdicts j (Kept plus_zero)) ≡ false
  unfolding steps_from
  too-few-none few = run-verdict true (lt-ltb (size (columns_of columns live)) k few) ∙ same_test (in_set live j && false) false (and_right (in_set live j) false) (λ t. absurd t)

pub few-reject-none : (X : List (List Float)) (rows columns k e observed live : ℕ) → size (columns_of columns live) < k → count is_rejected (full_run X (first_state rows columns k e observed live)).verdicts ≡ 0
few-reject-none X rows columns k e observed live few =
    let vs = (full_run X (first_state rows columns k e observed live)).verdicts in
    omega (
      arith,
      count_below-list is_rejected vs (Kept plus_zero),
      count_below-le (length vs) (λ j. is_rejected (get_or vs j (Kept plus_zero))) (λ _. false)
          (λ j l t. never (is_rejected (get_or vs j (Kept plus_zero))) (too-few-none X rows columns k e observed live j (omega (arith, verdicts-length X (first_state rows columns k e observed live))) few) t),
      count_below-none (length vs),
    )
