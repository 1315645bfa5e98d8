-- The critical value of a step covers every set of live columns of which few are rejected.
--   critical-covers   c(K') with k' and e' is at most the critical value of a step with k ≤ k' and e ≤ e', where fewer than k' columns of K' are rejected
use Prim.Native.Nat.{ℕ, zero, suc, ◌-◌, ◌≤◌, ◌<◌}
use native.Mathlib.Omega.{arith}
use mathlib.Core.Path.{◌≡◌, refl, sym, ◌∙◌, subst}
use mathlib.Core.Bool.{Bool}
use mathlib.Core.List.{List}
use lib.ListN.{length}
use lib.Dec.{leb, T, le→leb}
use lib.Ieee.{Float}
use Rattle.order.proofs.Booleans.{and_right}
use Rattle.order.proofs.Keys.{key}
use Rattle.order.proofs.Rows.{Sound}
use Rattle.columns.specs.Columns.{Columns, size, ◌∪◌, ◌∩◌, ◌∖◌}
use Rattle.columns.proofs.Sets.{has, ◌⊆◌, ⊆-by, ⊆-length, length-∪, length-∩, length-∖, has-∩}
use Rattle.columns.proofs.PutBack.{choose-misses, put-lacks, lacks-none}
use Rattle.method.specs.Method.{critical_value}
use Rattle.method.proofs.Critical.{critical-looser, put_back-reaches}
use Rattle.runs.specs.Stepdown.{step_critical}

module _ (k e k' e' : ℕ) (X : List (List Float)) (live : Columns) (sound : Sound (length live) X) (pos : 0 < k) (tolerant : k ≤ k') (few' : e' < length X) (lower : e ≤ e') where
  pub critical-covers : (K' R : Columns) (s : ℕ) → K' ⊆ live → length R ≡ length live → k' ≤ size K' → (0 < s → (k ≤ size R) × (size (K' ∩ R) < k')) → key (critical_value k' e' X K') ≤ key (step_critical k e X live R s)
  unfolding step_critical
  critical-covers K' R zero sub h wide later =
      critical-looser (length live) k e k' e' X sound pos (omega arith) few' lower K' live (⊆-length sub) refl (omega (arith, lacks-none sub)) wide
  critical-covers K' R (suc s) sub h wide later =
      put_back-reaches (length live) k e X sound (live ∖ R) R v
      (choose-misses {B = K' ∩ R} {R = R} (k - 1) (k' - k) in-R (omega (arith, (later (omega arith)).1)) (omega (arith, (later (omega arith)).0))
      (λ I. leb v (key (critical_value k e X ((live ∖ R) ∪ I))))
      (λ I l q. le→leb v (key (critical_value k e X ((live ∖ R) ∪ I)))
      (critical-looser (length live) k e k' e' X sound pos (omega arith) few' lower K' ((live ∖ R) ∪ I) (⊆-length sub)
      (length-∪ (live ∖ R) I (length-∖ live R (sym h) ∙ sym h ∙ sym (⊆-length in-R) ∙ sym l) ∙ length-∖ live R (sym h))
      (omega (arith, put-lacks live K' R I sub h (l ∙ ⊆-length in-R ∙ h))) wide)))
    where
      v : ℕ
      v = key (critical_value k' e' X K')

      short : length K' ≡ length R
      short = ⊆-length sub ∙ sym h

      in-R : (K' ∩ R) ⊆ R
      in-R = ⊆-by (K' ∩ R) R (length-∩ K' R short ∙ short) (λ j t. and_right (has K' j) (has R j) (subst (λ (b : Bool). T b) (has-∩ K' R short j) t))
