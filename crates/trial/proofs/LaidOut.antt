-- Laws of how a trial was laid out, by its cases: of this crate only Aside knows them too.
--   shops-inside                     the counts of an accepted layout of shops
--   LaidOut, laid_out                what an accepted layout is known to be
--   units-pairs, units-shops         the figures of an offer
--   layout-known                     an accepted layout whose case is known
--   rows-shift, rows-chosen          M as a shift, and as the number of choices
--   count_at                         the table of the numbers of choices
--   count-is, count_most             how many figures a trial has
--   entry-small                      an entry is a whole number up to 2^53
use Prim.Native.Nat.{ℕ, ◌-◌, ◌*◌, ◌%◌, ◌^◌, ◌≤◌, ◌<◌}
use native.Mathlib.Omega.{arith}
use native.Mathlib.Nat.{one-mul, mul-le-mul}
use mathlib.Core.Path.{◌≡◌, sym, ap, ◌∙◌}
use mathlib.Core.List.{List, [], ◌∷◌}
use lib.ListN.{length, get_or}
use lib.Dec.{T, eqb, eqb→eq}
use lib.IntN.{ℤ, nat_abs}
use lib.Pow.{pow_mono, pow_pos, shl_exact}
use Rattle.limits.specs.Limits.{offers_most, pairs_most, shops_most, units_most, figures_most, trial_rows_most}
use Rattle.order.specs.Counting.{all}
use Rattle.order.specs.Lists.{tabulate}
use Rattle.refusals.specs.Answers.{first_refusal}
use Rattle.refusals.specs.Limits.{outside}
use Rattle.refusals.proofs.Answers.{NoneHolds, none-holds}
use Rattle.refusals.proofs.Limits.{or-none, inside}
use Rattle.trial.specs.Choices.{choices, choice_at}
use Rattle.trial.specs.Designs.{design_checks, units_of, row_count, entry_of}
use Rattle.trial.specs.Record.{figure_count}
use Rattle.trial.specs.Internal.{Ranged}
use Rattle.trial.specs.declared.Design.{Design}
use Rattle.trial.specs.declared.Design.TheVariants.{Paired, Unpaired}
use Rattle.trial.specs.declared.Shape.{Shape}
use Rattle.trial.proofs.Choices.{binomial, choices-length, choices-some, choices-most, at-number}
use Rattle.trial.proofs.Contrasts.{contrast-small}
use Rattle.trial.proofs.Sums.{signed_sum-small}

-- ---- an accepted layout

pub record LaidOut (d : Design) : Type 0 where
  pub units-some : 1 ≤ units_of d
  pub units-most : units_of d ≤ units_most
  pub rows-some : 0 < row_count d
  pub rows-most : row_count d ≤ trial_rows_most

-- the shops and the treated ones of an accepted layout
pub shops-inside : (shops treated : ℕ) → NoneHolds (design_checks (Unpaired shops treated)) → (2 ≤ shops) × (shops ≤ shops_most) × (1 ≤ treated) × (treated < shops)
unfolding design_checks
shops-inside n t h =
    let o = or-none (outside 2 shops_most n) (outside 1 (n - 1) t) h.0 in
    let i = inside 2 shops_most n o.0 in
    let j = inside 1 (n - 1) t o.1 in
    (i.0, i.1, j.0, omega arith)

pub laid_out : (d : Design) → NoneHolds (design_checks d) → LaidOut d
unfolding design_checks units_of row_count
laid_out (Paired n) h =
    let i = inside 1 pairs_most n h.0 in
    record { units-some = i.0; units-most = omega arith; rows-some = pow_pos n; rows-most = pow_mono i.1 }
laid_out (Unpaired n t) h =
    let i = shops-inside n t h in
    record { units-some = omega arith; units-most = i.1; rows-some = choices-some n t (omega arith); rows-most = omega (arith, choices-most n t i.1) }

-- ---- the code

-- figures of an offer
pub units-pairs : (d : Design) {n : ℕ} → d ≡ Paired n → n ≡ units_of d
unfolding units_of
units-pairs d e = ap units_of (sym e)

pub units-shops : (d : Design) {n t : ℕ} → d ≡ Unpaired n t → n ≡ units_of d
unfolding units_of
units-shops d e = ap units_of (sym e)

-- an accepted layout whose case is known
pub layout-known : (d e : Design) → d ≡ e → first_refusal (design_checks d) ≡ 0 → NoneHolds (design_checks e)
layout-known d e q h = none-holds (design_checks e) (ap (λ (x : Design). first_refusal (design_checks x)) (sym q) ∙ h)

-- M
pub rows-shift : (d : Design) (n : ℕ) → d ≡ Paired n → first_refusal (design_checks d) ≡ 0 → (n < 64) × ((1 * 2 ^ n) % 2 ^ 64 ≡ row_count d)
unfolding design_checks row_count
rows-shift d n e h =
    let i = inside 1 pairs_most n (layout-known d (Paired n) e h).0 in
    (omega arith, shl_exact 1 n 64 (omega arith) (omega arith) ∙ one-mul (2 ^ n) ∙ ap row_count (sym e))

pub rows-chosen : (d : Design) (n t : ℕ) → d ≡ Unpaired n t → first_refusal (design_checks d) ≡ 0 → (n ≤ shops_most) × (t ≤ shops_most) × ((m : ℕ) → m ≡ length (choices n t) → m ≡ row_count d)
unfolding row_count
rows-chosen d n t e h =
    let i = shops-inside n t (layout-known d (Unpaired n t) e h) in
    (i.1, omega arith, λ m q. q ∙ ap row_count (sym e))

-- the table of the numbers of choices
abbrev counts : List (List ℕ)
counts =
    (1 ∷ 0 ∷ 0 ∷ 0 ∷ 0 ∷ 0 ∷ 0 ∷ 0 ∷ 0 ∷ 0 ∷ 0 ∷ [])
    ∷ (1 ∷ 1 ∷ 0 ∷ 0 ∷ 0 ∷ 0 ∷ 0 ∷ 0 ∷ 0 ∷ 0 ∷ 0 ∷ [])
    ∷ (1 ∷ 2 ∷ 1 ∷ 0 ∷ 0 ∷ 0 ∷ 0 ∷ 0 ∷ 0 ∷ 0 ∷ 0 ∷ [])
    ∷ (1 ∷ 3 ∷ 3 ∷ 1 ∷ 0 ∷ 0 ∷ 0 ∷ 0 ∷ 0 ∷ 0 ∷ 0 ∷ [])
    ∷ (1 ∷ 4 ∷ 6 ∷ 4 ∷ 1 ∷ 0 ∷ 0 ∷ 0 ∷ 0 ∷ 0 ∷ 0 ∷ [])
    ∷ (1 ∷ 5 ∷ 10 ∷ 10 ∷ 5 ∷ 1 ∷ 0 ∷ 0 ∷ 0 ∷ 0 ∷ 0 ∷ [])
    ∷ (1 ∷ 6 ∷ 15 ∷ 20 ∷ 15 ∷ 6 ∷ 1 ∷ 0 ∷ 0 ∷ 0 ∷ 0 ∷ [])
    ∷ (1 ∷ 7 ∷ 21 ∷ 35 ∷ 35 ∷ 21 ∷ 7 ∷ 1 ∷ 0 ∷ 0 ∷ 0 ∷ [])
    ∷ (1 ∷ 8 ∷ 28 ∷ 56 ∷ 70 ∷ 56 ∷ 28 ∷ 8 ∷ 1 ∷ 0 ∷ 0 ∷ [])
    ∷ (1 ∷ 9 ∷ 36 ∷ 84 ∷ 126 ∷ 126 ∷ 84 ∷ 36 ∷ 9 ∷ 1 ∷ 0 ∷ [])
    ∷ (1 ∷ 10 ∷ 45 ∷ 120 ∷ 210 ∷ 252 ∷ 210 ∷ 120 ∷ 45 ∷ 10 ∷ 1 ∷ [])
    ∷ []

counted : T (all (λ n. all (λ t. eqb (get_or (get_or counts n []) t 0) (binomial n t)) (tabulate 11 (λ t. t))) (tabulate 11 (λ n. n)))
unfolding all binomial tabulate
counted = tt

pub count_at : (n t : ℕ) → n ≤ shops_most → t ≤ shops_most → get_or (get_or counts n []) t 0 ≡ length (choices n t)
count_at n t h k =
    eqb→eq (get_or (get_or counts n []) t 0) (binomial n t)
    (at-number (λ t. eqb (get_or (get_or counts n []) t 0) (binomial n t)) 11 t (at-number (λ n. all (λ t. eqb (get_or (get_or counts n []) t 0) (binomial n t)) (tabulate 11 (λ t. t))) 11 n counted (omega arith)) (omega arith))
    ∙ sym (choices-length n t)

-- how many figures
pub count-is : (s : Shape) (n : ℕ) → n ≡ units_of s.design → s.offers * n ≡ figure_count s
unfolding figure_count
count-is s n e = ap (λ (m : ℕ). s.offers * m) e

pub count_most : (s : Shape) (n : ℕ) → s.offers ≤ offers_most → units_of s.design ≤ units_most → n ≡ units_of s.design → s.offers * n ≤ figures_most
count_most s n h k e = let u : n ≤ units_most = omega arith in mul-le-mul h u

-- ---- entries

pub entry-small : (d : Design) (g : ℕ) (xs : List ℤ) → NoneHolds (design_checks d) → length xs ≤ units_of d → Ranged (length xs) xs → nat_abs (entry_of d g xs) ≤ 2 ^ 53
unfolding entry_of units_of
entry-small (Paired n) g xs h k r = let i = (laid_out (Paired n) h).units-most in omega (arith, signed_sum-small g xs r)
entry-small (Unpaired n t) g xs h k r = let i = shops-inside n t h in omega (arith, contrast-small n t (choice_at n t g) xs i.1 (omega arith) k r)
