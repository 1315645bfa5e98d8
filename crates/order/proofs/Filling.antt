-- A list of numbers that is filled from the front.
--   Told f m out                        its first m members are f 0, f 1 and so on
--   told-start, told-turn, told-end     before the first, one more, and after the last
use Prim.Native.Nat.{ℕ, ◌+◌, ◌≤◌, ◌<◌}
use native.Mathlib.Omega.{arith}
use native.Mathlib.Decide.{ℕ_discrete}
use mathlib.Core.Path.{◌≡◌, sym, ◌∙◌}
use mathlib.Core.List.{List}
use lib.ListN.{length, get_or, set}
use lib.Seq.{ext_get_or, get_or-set_same, get_or-set_other}
use Rattle.order.specs.Lists.{tabulate}
use Rattle.order.proofs.Lists.{tabulate-length, tabulate-get_d}

pub record Told (f : ℕ → ℕ) (m : ℕ) (out : List ℕ) : Type 0 where
  pub told : (i : ℕ) → i < m → get_or out i 0 ≡ f i

module _ (f : ℕ → ℕ) where
  pub told-start : (out : List ℕ) → Told f 0 out
  told-start out = record { told = λ i h. absurd (omega arith) }

  pub told-turn : {m : ℕ} {out : List ℕ} → Told f m out → m < length out → (v : ℕ) → v ≡ f m → Told f (m + 1) (set out m v)
  told-turn {m = m} {out = out} t h v e = record { told = λ i l. go i l (ℕ_discrete i m) }
    where
      go : (i : ℕ) → i < m + 1 → Dec (i ≡ m) → get_or (set out m v) i 0 ≡ f i
      go i l (yes s) = rw s (get_or-set_same out m v 0 h ∙ e)
      go i l (no s) = get_or-set_other out m i v 0 s ∙ t.told i (omega (arith, s))

  pub told-end : {m : ℕ} {out : List ℕ} → Told f m out → (n : ℕ) → length out ≡ n → n ≤ m → out ≡ tabulate n f
  told-end {m = m} {out = out} t n l h =
      ext_get_or 0 out (tabulate n f) (l ∙ sym (tabulate-length n f)) (λ i k. t.told i (omega arith) ∙ sym (tabulate-get_d n f i 0 (omega arith)))
