-- `trial::designs::choice_count` meets its contract.
use mathlib.Core.Path.{◌∙◌}
use Rattle.trial.proofs.LaidOut.{count_at}
use Rattle.trial.proofs.designs.choice_count.Goals as goal

pub returns : goal.returns
returns c = c.from.ensures ∙ count_at c.args.shops c.args.treated c.requires.0 c.requires.1
