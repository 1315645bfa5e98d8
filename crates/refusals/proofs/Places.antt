-- Laws of conditions that are judged place by place.
--   places-start, place-decides, place-passes, places-end     a loop over the places: what it has left to judge
--   places-each, places-none                    no condition holds exactly where none does at each place
--   places_same                                 places whose conditions are equal
use Prim.Native.Nat.{ℕ, zero, suc, ◌+◌, ◌-◌, ◌≤◌, ◌<◌}
use native.Mathlib.Numerals.{add-one}
use native.Mathlib.Nat.{sub-zero}
use native.Mathlib.Omega.{arith}
use mathlib.Core.Path.{◌≡◌, refl, ap, ap₂, ◌∙◌, subst}
use mathlib.Core.List.{◌++◌}
use Rattle.refusals.specs.Answers.{Checks, first_refusal, places_from}
use Rattle.refusals.proofs.Answers.{NoneHolds, none-append, none-join, first-decides, first_passes}

module _ (p : ℕ → Checks) (n i : ℕ) where
  -- from place i on, of n places
  abbrev pub places_left : Checks
  places_left = places_from p i (n - i)

  left_split : i < n → places_left ≡ p i ++ places_from p (i + 1) (n - (i + 1))
  unfolding places_from
  left_split h = let m : n - i ≡ suc (n - (i + 1)) = omega arith in rw (m, add-one)

  module _ (h : i < n) (r : ℕ) (q : r ≡ first_refusal (p i)) where
    pub place-decides : (r ≡ 0 → ⊥) → first_refusal places_left ≡ r
    place-decides z = ap first_refusal (left_split h) ∙ first-decides (p i) _ r q z

    pub place-passes : r ≡ 0 → first_refusal places_left ≡ first_refusal (places_from p (i + 1) (n - (i + 1)))
    place-passes z = ap first_refusal (left_split h) ∙ first_passes (p i) _ r q z

  pub places-end : n ≤ i → first_refusal places_left ≡ 0
  unfolding places_from first_refusal
  places-end h = let m : n - i ≡ 0 = omega arith in rw m

pub places-start : (p : ℕ → Checks) (n : ℕ) → first_refusal (places_from p 0 n) ≡ first_refusal (places_left p n 0)
places-start p n = rw sub-zero

each_from : (p : ℕ → Checks) (i n : ℕ) → NoneHolds (places_from p i n) → (j : ℕ) → j < n → NoneHolds (p (i + j))
unfolding places_from
each_from p i zero h j l = absurd (omega arith)
each_from p i (suc n) h zero l = let e : i + 0 ≡ i = omega arith in rw e (none-append (p i) (places_from p (suc i) n) h).0
each_from p i (suc n) h (suc j) l = let e : i + suc j ≡ suc i + j = omega arith in rw e (each_from p (suc i) n (none-append (p i) (places_from p (suc i) n) h).1 j (omega arith))

pub places-each : (p : ℕ → Checks) (n : ℕ) → NoneHolds (places_from p 0 n) → (j : ℕ) → j < n → NoneHolds (p j)
places-each p n h j l = let e : 0 + j ≡ j = omega arith in subst (λ (k : ℕ). NoneHolds (p k)) e (each_from p 0 n h j l)

none_from : (p : ℕ → Checks) (i n : ℕ) → ((j : ℕ) → i ≤ j → j < i + n → NoneHolds (p j)) → NoneHolds (places_from p i n)
unfolding places_from
none_from p i zero h = tt
none_from p i (suc n) h = none-join (p i) (places_from p (suc i) n) (h i (omega arith) (omega arith)) (none_from p (suc i) n (λ j l m. h j (omega arith) (omega arith)))

pub places-none : (p : ℕ → Checks) (n : ℕ) → ((j : ℕ) → j < n → NoneHolds (p j)) → NoneHolds (places_from p 0 n)
places-none p n h = none_from p 0 n (λ j l m. h j (omega arith))

same_from : (p q : ℕ → Checks) (i n : ℕ) → ((j : ℕ) → i ≤ j → j < i + n → p j ≡ q j) → places_from p i n ≡ places_from q i n
unfolding places_from
same_from p q i zero h = refl
same_from p q i (suc n) h = ap₂ ◌++◌ (h i (omega arith) (omega arith)) (same_from p q (suc i) n (λ j l m. h j (omega arith) (omega arith)))

pub places_same : (p q : ℕ → Checks) (n : ℕ) → ((j : ℕ) → j < n → p j ≡ q j) → places_from p 0 n ≡ places_from q 0 n
places_same p q n h = same_from p q 0 n (λ j l m. h j (omega arith))
