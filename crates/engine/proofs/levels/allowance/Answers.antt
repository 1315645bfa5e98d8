-- `allowance` meets its contract.
use Rattle.refusals.specs.Limits.{allowance}
use Rattle.engine.proofs.LevelRows.{level-fits, level-some}
use mathlib.Core.Path.{refl}
use native.Mathlib.Omega.{arith}
use Rattle.engine.proofs.levels.allowance.Goals as goal

pub overflow_mul-result : goal.overflow_mul-result
overflow_mul-result c = record { fits = level-fits _ _ _ c.requires.0 c.requires.1 }

pub nonzero_div-result : goal.nonzero_div-result
nonzero_div-result c = let p = level-some _ _ c.requires.1 in omega (arith, p)

pub returns : goal.returns
unfolding allowance
returns c = refl
