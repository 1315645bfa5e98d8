-- The entries of a trial's table are exact.
--   back-exact      a whole number up to 2^53, as an f64 and back
--   row-exact       a row's values, read back as whole numbers, are its entries
use Prim.Native.Nat.{ℕ, ◌≤◌, ◌^◌}
use native.Mathlib.Omega.{arith}
use mathlib.Core.Path.{◌≡◌, refl, ap₂}
use mathlib.Core.List.{List, [], ◌∷◌, map}
use lib.Dec.{T, leb, leb→le, le→leb, lt→ltb}
use lib.IntN.{ℤ, pos, negsuc, nat_abs}
use lib.Ieee.{binary64, of_int, to_signed, in_float}
use lib.Ieee.Back.{positive_back, negative_back}
use Rattle.order.specs.Counting.{all}
use Rattle.order.proofs.Booleans.{and_left, and_right}
use Rattle.trial.specs.Designs.{entry_of}
use Rattle.trial.specs.Exchange.{by_offer, row_of}
use Rattle.trial.specs.Refusals.{trial_refusal}
use Rattle.trial.specs.declared.Trial.{Trial}
use Rattle.trial.proofs.Accepted.{accepted}
use Rattle.trial.proofs.Tables.{entries-small}

pub back-exact : (z : ℤ) → nat_abs z ≤ 2 ^ 53 → to_signed 63 (of_int binary64 z) ≡ z
unfolding in_float
back-exact (pos n) h = (positive_back binary64 63 n (le→leb _ _ h) (omega arith)).1
back-exact (negsuc n) h = (negative_back binary64 63 n (lt→ltb _ _ h) (omega arith)).1

entries-back : (f : List ℤ → ℤ) (os : List (List ℤ)) → T (all (λ xs. leb (nat_abs (f xs)) (2 ^ 53)) os) → map (to_signed 63) (map (λ xs. of_int binary64 (f xs)) os) ≡ map f os
unfolding all
entries-back f [] h = refl
entries-back f (xs ∷ os) h =
    ap₂ (λ (z : ℤ) (zs : List ℤ). z ∷ zs)
    (back-exact (f xs) (leb→le _ _ (and_left (leb (nat_abs (f xs)) (2 ^ 53)) (all (λ xs. leb (nat_abs (f xs)) (2 ^ 53)) os) h)))
    (entries-back f os (and_right (leb (nat_abs (f xs)) (2 ^ 53)) (all (λ xs. leb (nat_abs (f xs)) (2 ^ 53)) os) h))

pub row-exact : (t : Trial) → trial_refusal t ≡ 0 → (g : ℕ) → map (to_signed 63) (row_of t g) ≡ map (entry_of t.shape.design g) (by_offer t)
unfolding row_of
row-exact t h g = entries-back (entry_of t.shape.design g) (by_offer t) (entries-small t g (accepted t h))
