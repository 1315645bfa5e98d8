-- `trialtable::shops::first_contrast` meets its contract.
use Prim.Native.Nat.{ℕ, ◌-◌}
use mathlib.Core.Path.{◌≡◌, ap, ap₂, ◌∙◌}
use native.Mathlib.Omega.{arith}
use lib.ListN.{length}
use lib.IntN.{ℤ, pos, ◌-ℤ◌, ◌*ℤ◌}
use lib.Ieee.{binary64, of_int}
use Rattle.trial.specs.Choices.{sum_of}
use Rattle.trialtable.proofs.Arithmetic.{contrast-fits, contrast-float, contrast-is}
use Rattle.trialtable.proofs.shops.first_contrast.Goals as goal

pub overflow_sub-result : goal.overflow_sub-result
overflow_sub-result c =
    let e = c.split_at.ensures in
    contrast-fits (length c.split_at.result.1.now) c.args.treated c.sum.result c.sum-2.result (omega (arith, e.back_len, c.requires)) (omega (arith, c.requires))
    (omega (arith, c.sum.ensures.1, e.front_len, c.requires)) (omega (arith, c.sum-2.ensures.1, e.back_len, c.requires))

pub int_to_float-result : goal.int_to_float-result
int_to_float-result c =
    let e = c.split_at.ensures in
    contrast-float (length c.split_at.result.1.now) c.args.treated c.sum.result c.sum-2.result (omega (arith, e.back_len, c.requires)) (omega (arith, c.requires))
    (omega (arith, c.sum.ensures.1, e.front_len, c.requires)) (omega (arith, c.sum-2.ensures.1, e.back_len, c.requires))

pub returns : goal.returns
returns c =
    let e = c.split_at.ensures in
    let t = c.args.treated in
    let m : length c.split_at.result.1.now ≡ length c.args.figures.now - t = omega (arith, e.back_len) in
    let less = ap (λ (z : ℤ). pos t *ℤ z) (c.sum-2.ensures.0 ∙ ap sum_of e.back) in
    let more = ap₂ (λ (k : ℕ) (z : ℤ). pos k *ℤ z) m (c.sum.ensures.0 ∙ ap sum_of e.front) in
    ap (of_int binary64) (contrast-is (length c.split_at.result.1.now) t c.sum.result c.sum-2.result (omega (arith, e.back_len, c.requires)) (omega (arith, c.requires))
    (omega (arith, c.sum.ensures.1, e.front_len, c.requires)) (omega (arith, c.sum-2.ensures.1, e.back_len, c.requires)) ∙ ap₂ ◌-ℤ◌ more less)
