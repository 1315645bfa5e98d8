-- `trial::checks::bad_difference` meets its contract.
use mathlib.Core.Path.{◌∙◌}
use native.Mathlib.Omega.{arith}
use mir.Facts.{to_z-of_z}
use Rattle.trial.proofs.Conditions.{difference_low, difference-high}
use Rattle.trial.proofs.checks.bad_difference.Goals as goal

pub returns-then-d-lt-DIFFERENCE_LEAST : goal.returns-then-d-lt-DIFFERENCE_LEAST
returns-then-d-lt-DIFFERENCE_LEAST c = let h = c.if-d-lt-DIFFERENCE_LEAST.true in h ∙ difference_low _ _ (to_z-of_z c.ranges.d) _ h (omega arith)

pub returns-else-d-lt-DIFFERENCE_LEAST : goal.returns-else-d-lt-DIFFERENCE_LEAST
returns-else-d-lt-DIFFERENCE_LEAST c = difference-high _ _ (to_z-of_z c.ranges.d) c.if-d-lt-DIFFERENCE_LEAST.false
