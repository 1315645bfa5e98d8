-- A larger allowance rejects no fewer columns.
-- Let R' be what the method rejects at e'. By induction over the steps at e ≤ e' what they reject lies in R': a column that is left at e' lies no higher
-- than the critical value with R' rejected, and so no higher than that of the step.
--   critical_at k e X live R    the critical value by the rejected set alone: c(live) where fewer than k columns are rejected, and the largest c with k - 1 of them put back otherwise
--   critical_at-few, critical_at-many   its two cases
--   critical_at-step   it is the critical value of every step
--   critical_at-falls  a larger set and a larger allowance have no higher one
--   critical_at-end    at the end no column that is left lies above it
--   loosening          what the method rejects at e it rejects at e'
use Prim.Native.Nat.{ℕ, zero, suc, ◌-◌, ◌≤◌, ◌<◌}
use native.Mathlib.Omega.{arith}
use native.Mathlib.Decide.{dec_le}
use mathlib.Core.Path.{◌≡◌, refl, sym, ap, ◌∙◌, subst}
use mathlib.Core.Bool.{Bool, true, false, cond}
use mathlib.Core.List.{List, []}
use lib.ListN.{length, get_or}
use lib.Dec.{ltb, leb, T, le→leb}
use lib.Ieee.{Float, nan}
use borrow.Author.Tests.{lt-ltb, le-ltb}
use Rattle.order.proofs.Booleans.{true-T, never}
use Rattle.order.proofs.Keys.{key}
use Rattle.order.proofs.Rows.{Sound, sound_row}
use Rattle.columns.specs.Columns.{Columns, size, ◌∪◌, ◌∩◌, ◌∖◌}
use Rattle.columns.proofs.Sets.{has, ◌⊆◌, ⊆-at, ⊆-refl, ⊆-length, size_mono, empty-under}
use Rattle.columns.proofs.PutBack.{choose-sound, choose-some, size-put, put_in, put_meets, meet-size}
use Rattle.columns.proofs.Remaining.{remains-some}
use Rattle.method.specs.Method.{critical_value, put_back}
use Rattle.method.proofs.Critical.{put_back-under}
use Rattle.runs.specs.Stepdown.{step_critical}
use Rattle.runs.proofs.Covers.{critical-covers}
use Rattle.runs.proofs.RejectedSets.{step_rejects, rejected_set_at, step_in, grown-by, Before, Ended, row-sound, at-keeps, at-ends}

unfoldable pub critical_at : ℕ → ℕ → List (List Float) → Columns → Columns → Float
unfolding critical_value put_back size ◌∖◌
critical_at k e X live R = cond (ltb (size R) k) (critical_value k e X live) (put_back k e X (live ∖ R) R)

module _ (k e : ℕ) (X : List (List Float)) (live R : Columns) where
  pub critical_at-few : size R < k → critical_at k e X live R ≡ critical_value k e X live
  unfolding critical_at
  critical_at-few h = ap (λ (b : Bool). cond b (critical_value k e X live) (put_back k e X (live ∖ R) R)) (lt-ltb (size R) k h)

  pub critical_at-many : k ≤ size R → critical_at k e X live R ≡ put_back k e X (live ∖ R) R
  unfolding critical_at
  critical_at-many h = ap (λ (b : Bool). cond b (critical_value k e X live) (put_back k e X (live ∖ R) R)) (le-ltb (size R) k h)

  pub critical_at-step : (row : List Float) (s : ℕ) → 0 < k → Before k e X live row R s → step_critical k e X live R s ≡ critical_at k e X live R
  unfolding step_critical
  critical_at-step row zero pos b = sym (critical_at-few (omega (arith, b.first refl)))
  critical_at-step row (suc s) pos b = sym (critical_at-many (b.many (omega arith)))

  pub critical_at-end : (row : List Float) → Ended k e X live row R → (j : ℕ) → T (has live j) → (T (has R j) → ⊥) → key (get_or row j nan) ≤ key (critical_at k e X live R)
  critical_at-end row end j t u = go (dec_le k (size R))
    where
      go : Dec (k ≤ size R) → key (get_or row j nan) ≤ key (critical_at k e X live R)
      go (yes m) = subst (λ (c : Float). key (get_or row j nan) ≤ key c) (sym (critical_at-many m)) (end.many m j t u)
      go (no f) = let few : size R < k = omega (arith, f) in subst (λ (c : Float). key (get_or row j nan) ≤ key c) (sym (critical_at-few few)) (end.few few j t u)

module _ (k e e' : ℕ) (X : List (List Float)) (live : Columns) (sound : Sound (length live) X) (pos : 0 < k) (held : k ≤ size live) (lower : e ≤ e') (rare : e' < length X)
    (R R' : Columns) (sub : R ⊆ R') (inside : R' ⊆ live) (left : 0 < size (live ∖ R')) where
  len' : length R' ≡ length live
  len' = ⊆-length inside

  -- the critical value with R rejected covers every set of which fewer than k are in R
  under : (K : Columns) → K ⊆ live → k ≤ size K → size (K ∩ R) < k → key (critical_value k e' X K) ≤ key (critical_at k e X live R)
  unfolding step_critical
  under K within-live wide few = go (dec_le k (size R))
    where
      by-step : (s : ℕ) → (0 < s → k ≤ size R) → key (critical_value k e' X K) ≤ key (step_critical k e X live R s)
      by-step s many = critical-covers k e k e' X live sound pos (omega arith) rare lower K R s within-live (⊆-length sub ∙ len') wide (λ p. (many p, few))

      go : Dec (k ≤ size R) → key (critical_value k e' X K) ≤ key (critical_at k e X live R)
      go (yes m) = subst (λ (c : Float). key (critical_value k e' X K) ≤ key c) (sym (critical_at-many k e X live R m)) (by-step 1 (λ _. m))
      go (no f) = subst (λ (c : Float). key (critical_value k e' X K) ≤ key c) (sym (critical_at-few k e X live R (omega (arith, f)))) (by-step 0 (λ p. absurd (omega arith)))

  pub critical_at-falls : key (critical_at k e' X live R') ≤ key (critical_at k e X live R)
  critical_at-falls = go (dec_le k (size R'))
    where
      go : Dec (k ≤ size R') → key (critical_at k e' X live R') ≤ key (critical_at k e X live R)
      go (yes m) = subst (λ (c : Float). key c ≤ key (critical_at k e X live R)) (sym (critical_at-many k e' X live R' m))
          (put_back-under (length live) k e' X sound (live ∖ R') R' (key (critical_at k e X live R)) (choose-some (k - 1) R' (omega arith))
          (choose-sound (k - 1) R' (λ I. leb (key (critical_value k e' X ((live ∖ R') ∪ I))) (key (critical_at k e X live R)))
          (λ I i z. le→leb (key (critical_value k e' X ((live ∖ R') ∪ I))) (key (critical_at k e X live R))
          (under ((live ∖ R') ∪ I) (put_in inside i) (omega (arith, size-put live i (sym len'))) (omega (arith, put_meets live sub i (sym len')))))))
      go (no f) =
          let few : size R' < k = omega (arith, f) in
          subst (λ (c : Float). key c ≤ key (critical_at k e X live R)) (sym (critical_at-few k e' X live R' few))
          (under live (⊆-refl live) held (omega (arith, meet-size live R, size_mono sub)))

-- ---- the theorem

module _ (k e e' : ℕ) (X : List (List Float)) (live : Columns) (o : ℕ) (sound : Sound (length live) X) (seen : o < length X) (narrow : length live ≤ 32)
    (pos : 0 < k) (held : k ≤ size live) (lower : e ≤ e') (rare : e' < length X) where
  abbrev row : List Float
  row = get_or X o []

  abbrev R' : Columns
  R' = rejected_set_at k e' X live o

  end : Ended k e' X live (get_or X o []) (rejected_set_at k e' X live o)
  end = at-ends k e' X live o sound seen pos narrow

  own : T (sound_row (length live) (get_or X o []))
  own = row-sound k e X live o sound seen

  step-inside : (R : Columns) (s : ℕ) → Before k e X live (get_or X o []) R s → R ⊆ rejected_set_at k e' X live o
      → (j : ℕ) → T (has (step_rejects k e X live (get_or X o []) R s) j) → T (has (rejected_set_at k e' X live o) j)
  step-inside R s b sub j t = go (has R' j) refl (step_in k e X live row sound own R s (⊆-length b.inside) j t)
    where
      go : (c : Bool) → has R' j ≡ c → (T (has live j) × (T (has R j) → ⊥)) × (key (step_critical k e X live R s) < key (get_or (get_or X o []) j nan)) → T (has R' j)
      go true q f = true-T (has R' j) q
      go false q f = absurd (omega (
        arith,
        f.1,
        ap key (critical_at-step k e X live R row s pos b),
        critical_at-end k e' X live R' row end j f.0.0 (never (has R' j) q),
        critical_at-falls k e e' X live sound pos held lower rare R R' sub end.inside (remains-some live R' (sym (⊆-length end.inside)) j f.0.0 (never (has R' j) q)),
      ))

  pub loosening : rejected_set_at k e X live o ⊆ rejected_set_at k e' X live o
  loosening = at-keeps k e X live o sound seen (λ R. R ⊆ rejected_set_at k e' X live o)
      (λ R s b sub. grown-by k e X live row sound own R s (⊆-length b.inside) R' (⊆-length end.inside) (⊆-at sub) (step-inside R s b sub))
      (empty-under live R' (sym (⊆-length end.inside)))
