-- Laws by how a trial was laid out: of this crate only Doubling and Chosen know the cases too.
--   few-figures         an offer has few figures
--   first-shops         the entry in row 0 of shops, as the code finds it
--   taken-small         how large what is taken off can be
use Prim.Native.Nat.{ℕ, ◌-◌, ◌^◌, ◌≤◌}
use native.Mathlib.Omega.{arith}
use native.Mathlib.Nat.{mul-le-mul}
use mathlib.Core.Path.{◌≡◌, sym, ap, ◌∙◌}
use mathlib.Core.List.{List}
use lib.ListN.{length, get_or, take, drop}
use lib.IntN.{ℤ, pos, nat_abs, neg_ℤ, ◌-ℤ◌, ◌*ℤ◌}
use Rattle.limits.specs.Limits.{units_most}
use Rattle.refusals.specs.Answers.{first_refusal}
use Rattle.refusals.proofs.Answers.{none-holds}
use Rattle.trial.specs.Choices.{sum_of}
use Rattle.trial.specs.Designs.{design_checks, units_of, entry_of}
use Rattle.trial.specs.Internal.{Ranged}
use Rattle.trial.specs.declared.Design.{Design}
use Rattle.trial.specs.declared.Design.TheVariants.{Paired, Unpaired}
use Rattle.trial.proofs.Contrasts.{abs-times}
use Rattle.trial.proofs.LaidOut.{laid_out}
use Rattle.trial.proofs.Sums.{abs-add, abs_neg}
use Rattle.trialtable.specs.Internal.{taken_off, first_step, Reached}
use Rattle.trialtable.proofs.Choosing.{contrast-first}

pub few-figures : (d : Design) → first_refusal (design_checks d) ≡ 0 → units_of d ≤ units_most
few-figures d h = (laid_out d (none-holds (design_checks d) h)).units-most

pub first-shops : (n t : ℕ) (xs : List ℤ) → t ≤ n → length xs ≡ units_of (Unpaired n t)
    → pos (length xs - t) *ℤ sum_of (take t xs) -ℤ pos t *ℤ sum_of (drop t xs) ≡ entry_of (Unpaired n t) 0 xs
unfolding entry_of units_of
first-shops n t xs h l = ap (λ (m : ℕ). pos (m - t) *ℤ sum_of (take t xs) -ℤ pos t *ℤ sum_of (drop t xs)) l ∙ sym (contrast-first n t xs h l)

-- how large what is taken off can be
pub taken-small : (d : Design) (j : ℕ) (ys : List ℤ) → units_of d ≤ units_most → length ys ≡ units_of d → Reached d j → Ranged (length ys) ys → nat_abs (taken_off d j ys) ≤ 2 ^ 53
unfolding taken_off first_step units_of
taken-small (Paired n) j ys u l h r = omega (arith, abs-add (get_or ys j (pos 0)) (get_or ys j (pos 0)), r j (omega arith))
taken-small (Unpaired n t) j ys u l h r =
    let x = get_or ys (j - 1) (pos 0) in
    let y = get_or ys j (pos 0) in
    let b : nat_abs (x -ℤ y) ≤ 268435454 = omega (arith, abs-add x (neg_ℤ y), abs_neg y, r (j - 1) (omega arith), r j (omega arith)) in
    omega (arith, abs-times n (x -ℤ y), mul-le-mul u b)
