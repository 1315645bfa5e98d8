-- One run. K is a set of at least k live columns, and v a bound that lies no higher than c(K).
-- If fewer than k values of K lie above v in the observed row, then at every step the rejected columns of K are among those:
-- at most k - 1 of them are rejected so far, so the step's critical value covers c(K), and what it rejects lies above that.
use Prim.Native.Nat.{ℕ, zero, suc, ◌≤◌, ◌<◌}
use native.Mathlib.Omega.{arith}
use mathlib.Core.Path.{◌≡◌, refl, sym, ap, ◌∙◌, subst}
use mathlib.Core.Bool.{Bool, true, false, cond, ◌&&◌, ◌||◌}
use mathlib.Core.List.{List, [], ◌∷◌, map}
use lib.ListN.{length, length-map}
use lib.Dec.{ltb, T, ltb→lt, lt→ltb}
use lib.Ieee.{Float}
use Rattle.order.specs.Order.{finite, plus_zero}
use Rattle.order.specs.Counting.{all}
use Rattle.order.proofs.Booleans.{and_left, and_right, and_both}
use Rattle.order.proofs.Keys.{key, smaller-key}
use Rattle.order.proofs.Rows.{Finite, Sound}
use Rattle.columns.specs.Columns.{Columns, size, ◌∪◌, ◌∩◌, over, in_set}
use Rattle.columns.proofs.Sets.{has, has-length, ◌⊆◌, ⊆-by, ⊆-at, ⊆-length, size_mono, length-∪, length-∩, has-∪, has-∩}
use Rattle.method.specs.Method.{critical_value}
use Rattle.runs.specs.Stepdown.{live_set, rejected_set, critical_of, newly_rejected, next, steps_from, steps_of, verdict_from, verdict_of, left_over}
use Rattle.runs.specs.FullRuns.{is_rejected}
use Rattle.runs.specs.declared.State.{State}
use Rattle.runs.specs.declared.Step.{Step}
use Rattle.runs.specs.declared.Verdict.TheVariants.{Rejected}
use Rattle.runs.proofs.Steps.{seen_row, at-column, live-length, rejected-length, same_length, seen-length, seen-finite, over-left, newly-is, both-length, next-rejected, critical-finite, EachStep, along, going_on}
use Rattle.runs.proofs.Covers.{critical-covers}

-- ---- columns above a bound

-- the columns whose key is above v
abbrev pub above_key : ℕ → List Float → Columns
above_key v row = map (λ x. ltb v (key x)) row

pub above_key-length : (v : ℕ) (row : List Float) → length (above_key v row) ≡ length row
above_key-length v row = length-map row (λ x. ltb v (key x))

over-above : (c : Float) (v : ℕ) (row : List Float) (j : ℕ) → T (finite c) → v ≤ key c → Finite row → T (has (over c row) j) → T (has (above_key v row) j)
unfolding over all
over-above c v [] j f h fs t = absurd t
over-above c v (x ∷ row) zero f h fs t =
    lt→ltb v (key x) (omega (arith, ltb→lt (key c) (key x) (subst (λ (b : Bool). T b) (smaller-key c x f (and_left (finite x) (all finite row) fs)) t)))
over-above c v (x ∷ row) (suc j) f h fs t = over-above c v row j f h (and_right (finite x) (all finite row) fs) t

-- ---- the run

-- what holds of the run before each step
pub record Held (X : List (List Float)) (K : Columns) (v : ℕ) (obs : List Float) (r : State) : Type 0 where
  pub sound : Sound r.columns X
  pub seen : r.observed < length X
  pub same_row : seen_row X r ≡ obs
  pub lives : K ⊆ live_set r
  pub tolerance : 0 < r.k
  pub rare : r.e < length X
  pub wide : r.k ≤ size K
  pub low : v ≤ key (critical_value r.k r.e X K)
  pub few : size (K ∩ above_key v obs) < r.k
  pub inside : (K ∩ rejected_set r) ⊆ (K ∩ above_key v obs)
  pub many : r.ended ≡ false → 0 < r.steps → r.k ≤ size (rejected_set r)

module _ (X : List (List Float)) (K : Columns) (v : ℕ) (obs : List Float) where
  module _ (r : State) (h : Held X K v obs r) (going : r.ended ≡ false) where
    critical-high : v ≤ key (critical_of X r)
    unfolding critical_of
    critical-high = omega (
      arith,
      h.low,
      critical-covers r.k r.e r.k r.e X (live_set r) (subst (λ (n : ℕ). Sound n X) (sym (live-length r)) h.sound) h.tolerance (omega arith) h.rare (omega arith)
          K (rejected_set r) r.steps h.lives (sym (same_length r)) h.wide (λ p. (h.many going p, omega (arith, size_mono h.inside, h.few))),
    )

    K-length : length K ≡ r.columns
    K-length = ⊆-length h.lives ∙ live-length r

    level : length K ≡ length (above_key v obs)
    level = K-length ∙ sym (above_key-length v obs ∙ ap length (sym h.same_row) ∙ seen-length X r h.sound h.seen)

    -- a column that this step rejects lies above the critical value, and so above v
    new-above : (j : ℕ) → T (has (newly_rejected X r) j) → T (has (above_key v obs) j)
    new-above j t = subst (λ (row : List Float). T (has (above_key v row) j)) h.same_row
        (over-above (critical_of X r) v (seen_row X r) j (critical-finite X r h.sound h.seen) critical-high (seen-finite X r h.sound h.seen)
        (and_right (has (left_over r) j) (has (over (critical_of X r) (seen_row X r)) j)
        (subst (λ (b : Bool). T b) (ap (λ (S : Columns). has S j) (newly-is X r) ∙ has-∩ (left_over r) (over (critical_of X r) (seen_row X r)) (over-left X r h.sound h.seen) j) t)))

    column : (j : ℕ) → T (has K j && (has (rejected_set r) j || has (newly_rejected X r) j)) → T (has (K ∩ above_key v obs) j)
    column j t = go (has (rejected_set r) j) refl (and_right (has K j) (has (rejected_set r) j || has (newly_rejected X r) j) t)
      where
        in_k : T (has K j)
        in_k = and_left (has K j) (has (rejected_set r) j || has (newly_rejected X r) j) t

        go : (b : Bool) → has (rejected_set r) j ≡ b → T (b || has (newly_rejected X r) j) → T (has (K ∩ above_key v obs) j)
        go true e u = ⊆-at h.inside j (subst (λ (b : Bool). T b) (sym (has-∩ K (rejected_set r) (K-length ∙ sym (rejected-length r)) j)) (and_both (has K j) (has (rejected_set r) j) in_k (subst (λ (b : Bool). T b) (sym e) tt)))
        go false e u = subst (λ (b : Bool). T b) (sym (has-∩ K (above_key v obs) level j)) (and_both (has K j) (has (above_key v obs) j) in_k (new-above j u))

    next-above : (K ∩ rejected_set (next X r)) ⊆ (K ∩ above_key v obs)
    next-above = rw (next-rejected X r h.sound h.seen)
        (⊆-by (K ∩ (rejected_set r ∪ newly_rejected X r)) (K ∩ above_key v obs) (length-∩ K (rejected_set r ∪ newly_rejected X r) even ∙ sym (length-∩ K (above_key v obs) level))
        (λ j t. column j (subst (λ (b : Bool). T b) (has-∩ K (rejected_set r ∪ newly_rejected X r) even j ∙ ap (λ (b : Bool). has K j && b) (has-∪ (rejected_set r) (newly_rejected X r) same j)) t)))
      where
        same : length (rejected_set r) ≡ length (newly_rejected X r)
        same = both-length X r h.sound h.seen

        even : length K ≡ length (rejected_set r ∪ newly_rejected X r)
        even = K-length ∙ sym (length-∪ (rejected_set r) (newly_rejected X r) same ∙ rejected-length r)

    next-held : Held X K v obs (next X r)
    unfolding next
    next-held = record {
      sound = h.sound;
      seen = h.seen;
      same_row = h.same_row;
      lives = h.lives;
      tolerance = h.tolerance;
      rare = h.rare;
      wide = h.wide;
      low = h.low;
      few = h.few;
      inside = next-above;
      many = λ on _. (going_on X r h.sound h.seen on).many;
    }

    -- a column of K that is rejected after the step lies above v
    shown : (j : ℕ) → T (has K j) → T (in_set (next X r).rejected j) → T (has (K ∩ above_key v obs) j)
    unfolding next
    shown j t u = ⊆-at next-above j
        (subst (λ (b : Bool). T b) (sym (has-∩ K (rejected_set (next X r)) (K-length ∙ sym (rejected-length (next X r))) j))
        (and_both (has K j) (has (rejected_set (next X r)) j) t (subst (λ (b : Bool). T b) (sym (at-column (next X r) j (omega (arith, has-length K j t, K-length)))) u)))

  -- a column of K whose verdict is rejected lies above v
  abbrev Shown : Step → Type 0
  Shown s = (j : ℕ) → T (has K j) → T (in_set s.state.rejected j) → T (has (K ∩ above_key v obs) j)

  from-steps : (last : Float) (ss : List Step) (j : ℕ) → EachStep Shown ss → T (has K j) → T (is_rejected (verdict_from last ss j)) → T (has (K ∩ above_key v obs) j)
  from-steps last [] j q t u = absurd u
  from-steps last (s ∷ ss) j q t u = go (in_set s.state.rejected j) refl (from-steps s.logged.critical ss j q.1 t) u
    where
      go : (b : Bool) → in_set s.state.rejected j ≡ b → (T (is_rejected (verdict_from s.logged.critical ss j)) → T (has (K ∩ above_key v obs) j))
          → T (is_rejected (cond b (Rejected s.logged.step s.logged.critical) (verdict_from s.logged.critical ss j))) → T (has (K ∩ above_key v obs) j)
      go true e on u = q.0 j t (subst (λ (b : Bool). T b) (sym e) tt)
      go false e on u = on u

  pub rejected-above : (r : State) → Held X K v obs r → (j : ℕ) → T (has K j) → T (is_rejected (verdict_of (steps_of X r) j)) → T (has (K ∩ above_key v obs) j)
  unfolding verdict_of steps_of
  rejected-above r h j t u =
      from-steps plus_zero (steps_from 32 r.ended X r) j (along X (Held X K v obs) Shown next-held shown 32 r.ended r refl h) t u
