-- Laws of conditions that are judged place by place, by what is answered at each.
--   place_err, place_ok, places_over     a loop over the places: what it has left to judge
--   places_shift                         the same places, counted from the next on
use Prim.Native.Nat.{ℕ, zero, suc, ◌+◌, ◌-◌, ◌≤◌, ◌<◌}
use native.Mathlib.Numerals.{add-one}
use native.Mathlib.Omega.{arith}
use mathlib.Core.Path.{◌≡◌, refl, ap, ◌∙◌}
use mathlib.Core.List.{◌++◌}
use Rattle.std.proofs.Common.{Ok, Err}
use Rattle.refusals.specs.Answers.{Checks, outcome, places_from}
use Rattle.refusals.specs.declared.refusal.Refusal.{Refusal}
use Rattle.refusals.proofs.Answers.{ok-append, err-append}
use Rattle.refusals.proofs.Places.{places_left}

module _ (p : ℕ → Checks) (n i : ℕ) where
  left_split : i < n → places_left p n i ≡ p i ++ places_left p n (i + 1)
  unfolding places_from
  left_split h = let m : n - i ≡ suc (n - (i + 1)) = omega arith in rw (m, add-one)

  module _ {A B : Type 0} (h : i < n) (a : A) (b : B) where
    pub place_err : (r : Refusal) → outcome (p i) a ≡ Err r → outcome (places_left p n i) b ≡ Err r
    place_err r e = ap (λ (cs : Checks). outcome cs b) (left_split h) ∙ err-append (p i) (places_left p n (i + 1)) a b r e

    pub place_ok : (x : A) → outcome (p i) a ≡ Ok x → outcome (places_left p n i) b ≡ outcome (places_left p n (i + 1)) b
    place_ok x e = ap (λ (cs : Checks). outcome cs b) (left_split h) ∙ ok-append (p i) (places_left p n (i + 1)) a x b e

  pub places_over : {B : Type 0} (b : B) → n ≤ i → outcome (places_left p n i) b ≡ Ok b
  unfolding places_from
  places_over b h = let m : n - i ≡ 0 = omega arith in rw m

pub places_shift : (p : ℕ → Checks) (i n : ℕ) → places_from p (suc i) n ≡ places_from (λ j. p (suc j)) i n
unfolding places_from
places_shift p i zero = refl
places_shift p i (suc n) = ap (λ (cs : Checks). p (suc i) ++ cs) (places_shift p (suc i) n)
