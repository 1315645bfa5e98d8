-- Laws of an answer that tells figures: accepted with M rows and the figures fs.
--   figures-first, figures-most     its first figures are fs, and none of its places holds more than M
use Prim.Native.Nat.{ℕ, zero, suc, ◌-◌, ◌≤◌, ◌<◌}
use native.Mathlib.Omega.{arith}
use native.Mathlib.Decide.{dec_le}
use mathlib.Core.Path.{◌≡◌, refl, ap, ◌∙◌}
use mathlib.Core.List.{List, [], ◌∷◌, ◌++◌}
use lib.ListN.{length, get_or, take, replicate}
use lib.Seq.{take_at}
use Rattle.std.proofs.lemmas.List.{get_or_past}
use Rattle.adjustment.specs.Answers.{accepted_figures}
use Rattle.adjustment.specs.declared.Adjusted.{Adjusted}

-- a list with zeros after it
zero_at : (m j : ℕ) → ◌≡◌ {A = ℕ} (get_or (replicate m 0) j 0) 0
zero_at zero j = refl
zero_at (suc m) zero = refl
zero_at (suc m) (suc j) = zero_at m j

padded_at : (fs : List ℕ) (m j : ℕ) → get_or (fs ++ replicate m 0) j 0 ≡ get_or fs j 0
padded_at [] m j = zero_at m j
padded_at (x ∷ fs) m zero = refl
padded_at (x ∷ fs) m (suc j) = padded_at fs m j

module _ (rows : ℕ) (fs : List ℕ) (f : Adjusted) (e : f ≡ accepted_figures rows fs) (n : ℕ) (l : length fs ≡ n) where
  pub figures-first : take n f.figures ≡ fs
  figures-first = ap (λ (x : Adjusted). take n x.figures) e ∙ take_at fs (replicate (32 - length fs) 0) n l

  pub figures-most : ((j : ℕ) → j < n → get_or fs j 0 ≤ rows) → (j : ℕ) → get_or f.figures j 0 ≤ rows
  figures-most most j = go (dec_le n j)
    where
      at : get_or f.figures j 0 ≡ get_or fs j 0
      at = ap (λ (x : Adjusted). get_or x.figures j 0) e ∙ padded_at fs (32 - length fs) j

      go : Dec (n ≤ j) → get_or f.figures j 0 ≤ rows
      go (yes h) = omega (arith, at, get_or_past fs j 0 (omega (arith, l, h)))
      go (no h) = omega (arith, at, most j (omega (arith, h)))
