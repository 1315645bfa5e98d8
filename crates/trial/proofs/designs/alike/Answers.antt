-- `trial::designs::alike` meets its contract.
use mathlib.Core.Path.{◌∙◌}
use borrow.Author.Rules.{rules}
use Rattle.std.proofs.lemmas.Iterator.{YieldsList-from_slice}
use Rattle.std.proofs.lemmas.Iterator.Search.{all_from_yields_List}
use Rattle.trial.specs.Designs.{same_figure}
use Rattle.trial.proofs.Aside.{each_alike}
use Rattle.trial.proofs.designs.alike.Goals as goal

pub returns : goal.returns
returns c =
    all_from_yields_List (λ x. same_figure x c.args.z) _ _ c.all.result c.all.ensures.ran (YieldsList-from_slice c.args.figures.now cc) (λ x b q k. search rules)
    ∙ each_alike c.args.z c.args.figures.now
