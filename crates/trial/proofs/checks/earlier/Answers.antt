-- `trial::checks::earlier` meets its contract.
use mathlib.Core.Path.{◌∙◌}
use Rattle.trial.proofs.Conditions.{earlier_any}
use Rattle.trial.proofs.checks.earlier.Goals as goal

pub returns : goal.returns
returns c = c.contains.ensures.value ∙ earlier_any c.args.codes.now c.args.code c.args.i c.requires
