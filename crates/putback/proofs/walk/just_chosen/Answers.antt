-- `just_chosen` divides by no zero.
use Prim.Native.Nat.{ℕ, ◌<◌}
use mathlib.Core.Path.{sym, subst}
use lib.Pow.{pow_pos}
use Rattle.putback.proofs.walk.just_chosen.Goals as goal

pub nonzero_div-result : goal.nonzero_div-result
nonzero_div-result c = subst (λ (x : ℕ). 0 < x) (sym c.bit.ensures) (pow_pos _)
