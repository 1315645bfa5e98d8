-- Laws of the arrays of a trial that is read: each is filled from the front.
--   filling                the array with the first i values, and d beyond
--   fill_start, fill-turn, fill_end    nothing; one value more; the last
use Prim.Native.Nat.{ℕ, ◌+◌, ◌≤◌, ◌<◌}
use native.Mathlib.Omega.{arith}
use mathlib.Core.Path.{◌≡◌, refl, sym, ap, ap₂, ◌∙◌}
use mathlib.Core.List.{List, []}
use lib.ListN.{set}
use Rattle.order.specs.Lists.{tabulate, padded}
use Rattle.order.proofs.Lists.{tabulate-length, tabulate-more, set-padded}

module _ {A : Type 0} (f : ℕ → A) (n : ℕ) (d : A) where
  abbrev pub filling : ℕ → List A
  filling i = padded n d (tabulate i f)

  pub fill_start : padded n d [] ≡ filling 0
  unfolding tabulate
  fill_start = refl

  pub fill-turn : (i : ℕ) (xs : List A) (v : A) → i < n → xs ≡ filling i → v ≡ f i → set xs i v ≡ filling (i + 1)
  fill-turn i xs v h e g =
      ap₂ (λ (ys : List A) (y : A). set ys i y) e g
      ∙ set-padded n d (tabulate i f) i (f i) (tabulate-length i f) h
      ∙ ap (padded n d) (sym (tabulate-more i f))

  pub fill_end : (i m : ℕ) (xs : List A) → i ≤ m → m ≤ i → xs ≡ filling i → xs ≡ filling m
  fill_end i m xs h k e = let same : i ≡ m = omega arith in e ∙ ap filling same
