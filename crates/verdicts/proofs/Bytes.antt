-- The number that tells a verdict (`verdict_byte`): a run takes at most 32 steps, numbered from 1.
--   Tells v            it fits a byte; it is from 1 to 32 exactly where the verdict is rejected, and 255 exactly where the column is set aside
--   run-tells          so of each verdict of a run that begins with no step taken
--   run-bytes          and all of them fit a byte
use Prim.Native.Nat.{ℕ, zero, suc, ◌+◌, ◌-◌, ◌≤◌, ◌<◌}
use native.Mathlib.Omega.{arith}
use mathlib.Core.Path.{◌≡◌, refl, sym, subst}
use mathlib.Core.Logic.{◌↔◌}
use mathlib.Core.Bool.{Bool, true, false, cond, ◌&&◌}
use mathlib.Core.List.{List, [], ◌∷◌}
use lib.ListN.{length, get_or, replicate}
use lib.Dec.{T, leb, leb→le, le→leb}
use lib.Ieee.{Float}
use Rattle.order.specs.Order.{plus_zero}
use Rattle.order.specs.Counting.{all}
use Rattle.order.specs.Lists.{tabulate}
use Rattle.order.proofs.Booleans.{and_left, and_right, and_both}
use Rattle.order.proofs.Counts.{all_append}
use Rattle.order.proofs.Lists.{all-tabulate, all_replicate}
use Rattle.columns.specs.Columns.{in_set}
use Rattle.runs.specs.Stepdown.{next, record_of, steps_from, verdict_from, verdict_of, verdict_at, steps_of, full_run}
use Rattle.runs.specs.FullRuns.{accepted_run, is_rejected, is_aside}
use Rattle.verdicts.specs.Verdicts.{verdict_byte}
use Rattle.verdicts.specs.Internal.{small_bytes}
use Rattle.runs.specs.declared.State.{State}
use Rattle.runs.specs.declared.Step.{Step}
use Rattle.runs.specs.declared.Verdict.{Verdict}
use Rattle.runs.specs.declared.Verdict.TheVariants.{Rejected, Kept, Aside}
use Rattle.runs.proofs.ToldColumns.{verdict-told}

-- ---- a run

numbered : ℕ → Step → Bool
numbered n s = leb 1 s.logged.step && leb s.logged.step n

-- of m steps more, each has a number of at most m more than the steps taken
steps-numbered : (n m : ℕ) (b : Bool) (X : List (List Float)) (r : State) → r.steps + m ≤ n → T (all (numbered n) (steps_from m b X r))
unfolding steps_from next record_of all numbered
steps-numbered n zero b X r h = tt
steps-numbered n (suc m) true X r h = tt
steps-numbered n (suc m) false X r h =
    let s = next X r in
    let k = r.steps + 1 in
    and_both (leb 1 k && leb k n) (all (numbered n) (steps_from m s.ended X s)) (and_both (leb 1 k) (leb k n) (le→leb 1 k (omega arith)) (le→leb k n (omega arith))) (steps-numbered n m s.ended X s (omega arith))

-- a verdict that steps give: one of theirs rejected, or the column is kept
abbrev Stepped : ℕ → Verdict → Type 0
Stepped n (Rejected s c) = (1 ≤ s) × (s ≤ n)
Stepped n (Kept c) = Unit {0}
Stepped n Aside = ⊥

verdict-stepped : (n : ℕ) (last : Float) (ss : List Step) (j : ℕ) → T (all (numbered n) ss) → Stepped n (verdict_from last ss j)
unfolding all numbered
verdict-stepped n last [] j h = tt
verdict-stepped n last (s ∷ ss) j h = go (in_set s.state.rejected j) (and_left (numbered n s) (all (numbered n) ss) h) (verdict-stepped n s.logged.critical ss j (and_right (numbered n s) (all (numbered n) ss) h))
  where
    go : (b : Bool) → T (leb 1 s.logged.step && leb s.logged.step n) → Stepped n (verdict_from s.logged.critical ss j) → Stepped n (cond b (Rejected s.logged.step s.logged.critical) (verdict_from s.logged.critical ss j))
    go true here later = (leb→le 1 s.logged.step (and_left (leb 1 s.logged.step) (leb s.logged.step n) here), leb→le s.logged.step n (and_right (leb 1 s.logged.step) (leb s.logged.step n) here))
    go false here later = later

verdict-step : (X : List (List Float)) (r : State) (j : ℕ) → r.steps ≡ 0 → Stepped 32 (verdict_of (steps_of X r) j)
unfolding verdict_of steps_of
verdict-step X r j h = verdict-stepped 32 plus_zero (steps_of X r) j (steps-numbered 32 32 r.ended X r (omega arith))

-- ---- what a verdict's number tells

pub record Tells (v : Verdict) : Type 0 where
  pub small : verdict_byte v ≤ 255
  pub rejected : ((1 ≤ verdict_byte v) × (verdict_byte v ≤ 32)) ↔ T (is_rejected v)
  pub aside : (verdict_byte v ≡ 255) ↔ T (is_aside v)

-- the verdict of a column, live or not
told : (b : Bool) (v : Verdict) → Stepped 32 v → Tells (cond b v Aside)
told true (Rejected s c) h = record { small = omega (arith, h.1); rejected = ((λ _. tt), λ _. (h.0, h.1)); aside = ((λ e. absurd (omega (arith, h.1))), λ t. absurd t) }
told true (Kept c) h = record { small = omega arith; rejected = ((λ q. absurd (omega (arith, q.0))), λ t. absurd t); aside = ((λ e. absurd (omega (arith, e))), λ t. absurd t) }
told true Aside h = absurd h
told false v h = record { small = omega arith; rejected = ((λ q. absurd (omega (arith, q.1))), λ t. absurd t); aside = ((λ _. tt), λ _. refl) }

pub run-tells : (X : List (List Float)) (r : State) → r.steps ≡ 0 → (j : ℕ) → j < r.columns → (d : Verdict) → Tells (get_or (full_run X r).verdicts j d)
run-tells X r z j h d = subst Tells (sym (verdict-told X r j h d)) (told (in_set r.live j) (verdict_of (steps_of X r) j) (verdict-step X r j z))

-- ---- what a full run answers

abbrev small : Verdict → Bool
small v = leb (verdict_byte v) 255

pub run-bytes : (X : List (List Float)) (r : State) → r.steps ≡ 0 → T (small_bytes (accepted_run (full_run X r)).verdicts)
unfolding accepted_run full_run
run-bytes X r h =
    let vs = tabulate r.columns (λ j. verdict_at r (steps_of X r) j) in
    all_append small vs (replicate (32 - length vs) (Kept plus_zero))
    (all-tabulate small r.columns (λ j. verdict_at r (steps_of X r) j)
    (λ j. le→leb (verdict_byte (verdict_at r (steps_of X r) j)) 255 (told (in_set r.live j) (verdict_of (steps_of X r) j) (verdict-step X r j h)).small))
    (all_replicate small (32 - length vs) (Kept plus_zero) tt)
