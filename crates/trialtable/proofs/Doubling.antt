-- Laws by which the table of pairs is made by doubling.
--   sum-plain               row 0 holds each offer's plain sum
--   signed_sum-doubles      row 2^j + h of an offer is its row h less twice the difference of pair j
--   doubles                 so the rows that pair j makes are those straight before them
--   pairs-few, shifted      how many pairs there are at most, and 2^j as a shift
--   power-room, power-all   2^j rows are rows of the table, and all of it at the end
use Prim.Native.Nat.{ℕ, zero, suc, ◌+◌, ◌-◌, ◌*◌, ◌/◌, ◌%◌, ◌^◌, ◌≤◌, ◌<◌}
use native.Mathlib.Omega.{arith}
use native.Mathlib.Nat.{one-mul, mul-le-mul_right, two-pow-succ}
use mathlib.Core.Path.{◌≡◌, refl, sym, ap, ap₂, ◌∙◌}
use mathlib.Core.List.{List, [], ◌∷◌}
use lib.ListN.{length, get_or}
use lib.Dec.{eqb}
use lib.IntN.{ℤ, pos, neg_ℤ, ◌+ℤ◌, ◌-ℤ◌, +ℤ_assoc, +ℤ_comm, +ℤ_idl, +ℤ_invr, neg_ℤ-+ℤ}
use lib.Pow.{pow_mono, shl_exact}
use Rattle.limits.specs.Limits.{pairs_most}
use Rattle.refusals.specs.Answers.{first_refusal}
use Rattle.refusals.proofs.Answers.{none-holds}
use Rattle.refusals.proofs.Limits.{inside}
use Rattle.trial.specs.Choices.{sum_of}
use Rattle.trial.specs.Designs.{design_checks, units_of, row_count, entry_of}
use Rattle.trial.specs.Pairs.{exchanged, signed_sum}
use Rattle.trial.specs.declared.Design.TheVariants.{Paired}
use Rattle.trialtable.specs.Internal.{table_for, taken_off, first_step, Steps}
use Rattle.trialtable.proofs.Places.{table_for-length}

pub sum-plain : (ds : List ℤ) → sum_of ds ≡ signed_sum 0 ds
unfolding sum_of signed_sum
sum-plain [] = refl
sum-plain (d ∷ ds) = ap (λ (z : ℤ). d +ℤ z) (sum-plain ds)

less-twice : (d s : ℤ) → (d +ℤ s) -ℤ (d +ℤ d) ≡ neg_ℤ d +ℤ s
less-twice d s =
    ap₂ ◌+ℤ◌ (+ℤ_comm d s) (neg_ℤ-+ℤ d d) ∙ +ℤ_assoc s d (neg_ℤ d +ℤ neg_ℤ d)
    ∙ ap (λ (z : ℤ). s +ℤ z) (sym (+ℤ_assoc d (neg_ℤ d) (neg_ℤ d)) ∙ ap (λ (z : ℤ). z +ℤ neg_ℤ d) (+ℤ_invr d) ∙ +ℤ_idl (neg_ℤ d)) ∙ +ℤ_comm s (neg_ℤ d)

signed_sum-doubles : (j h : ℕ) (ds : List ℤ) → h < 2 ^ j → j < length ds → signed_sum (2 ^ j + h) ds ≡ signed_sum h ds -ℤ (get_or ds j (pos 0) +ℤ get_or ds j (pos 0))
unfolding signed_sum
signed_sum-doubles j h [] l k = absurd (omega arith)
signed_sum-doubles zero h (d ∷ ds) l k = let z : h ≡ 0 = omega arith in rw z (sym (less-twice d (signed_sum 0 ds)))
signed_sum-doubles (suc j) h (d ∷ ds) l k =
    let p = two-pow-succ j in
    let m : (2 ^ suc j + h) % 2 ≡ h % 2 = omega arith in
    let q : (2 ^ suc j + h) / 2 ≡ 2 ^ j + h / 2 = omega arith in
    rw (m, q, signed_sum-doubles j (h / 2) ds (omega arith) (omega arith)) (sym (+ℤ_assoc (exchanged (eqb (h % 2) 1) d) (signed_sum (h / 2) ds) (neg_ℤ (get_or ds j (pos 0) +ℤ get_or ds j (pos 0)))))

pub doubles : (pairs j rows : ℕ) → rows ≡ 2 ^ j → j < pairs → Steps (Paired pairs) rows rows j
unfolding units_of row_count entry_of taken_off first_step
doubles pairs j rows is k =
    let q : 2 ^ suc j ≤ 2 ^ pairs = pow_mono (omega arith) in
    record {
      reached = (omega arith, k);
      before = omega arith;
      inside = omega (arith, two-pow-succ j);
      entries = λ h ys l m.
          let z : rows + h - rows ≡ h = omega arith in
          ap (λ (r : ℕ). signed_sum (r + h) ys) is ∙ signed_sum-doubles j h ys (omega arith) (omega arith) ∙ ap (λ (g : ℕ). signed_sum g ys -ℤ (get_or ys j (pos 0) +ℤ get_or ys j (pos 0))) (sym z);
    }

-- ---- pair by pair

-- pairs of a layout that is accepted
pub pairs-few : (pairs : ℕ) → first_refusal (design_checks (Paired pairs)) ≡ 0 → pairs ≤ pairs_most
unfolding design_checks
pairs-few pairs h = (inside 1 pairs_most pairs (none-holds (design_checks (Paired pairs)) h).0).1

pub shifted : (j pairs : ℕ) → j < pairs → pairs ≤ pairs_most → (1 * 2 ^ j) % 2 ^ 64 ≡ 2 ^ j
shifted j pairs h k = shl_exact 1 j 64 (omega arith) (omega arith) ∙ one-mul (2 ^ j)

module _ (pairs offers : ℕ) (xs : List ℤ) where
  pub power-room : (j : ℕ) → j ≤ pairs → 2 ^ j * offers ≤ length (table_for (Paired pairs) offers xs)
  unfolding row_count
  power-room j h = let m : 2 ^ j * offers ≤ 2 ^ pairs * offers = mul-le-mul_right offers (pow_mono h) in omega (arith, table_for-length (Paired pairs) offers xs)

  pub power-all : (j : ℕ) → j ≤ pairs → pairs ≤ j → 2 ^ j * offers ≡ length (table_for (Paired pairs) offers xs)
  unfolding row_count
  power-all j h k = let e : j ≡ pairs = omega arith in ap (λ (n : ℕ). 2 ^ n * offers) e ∙ sym (table_for-length (Paired pairs) offers xs)
