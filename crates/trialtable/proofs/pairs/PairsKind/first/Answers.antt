-- `Pairs::first` meets its contract.
use mathlib.Core.Path.{ap, ◌∙◌}
use native.Mathlib.Omega.{arith}
use lib.Ieee.{binary64, of_int}
use Rattle.trial.specs.Designs.{entry_of}
use Rattle.trialtable.proofs.Arithmetic.{float_fits, word_is}
use Rattle.trialtable.proofs.Cases.{few-figures}
use Rattle.trialtable.proofs.Doubling.{sum-plain}
use Rattle.trialtable.proofs.pairs.PairsKind.first.Goals as goal

pub sum-requires : goal.sum-requires
sum-requires c = omega (arith, c.requires, few-figures _ c.args.self.accepted)

pub int_to_float-result : goal.int_to_float-result
int_to_float-result c = float_fits c.sum.result (omega (arith, c.sum.ensures.1, c.requires, few-figures _ c.args.self.accepted))

pub returns : goal.returns
unfolding entry_of
returns c = ap (of_int binary64) (word_is c.sum.result (omega (arith, c.sum.ensures.1, c.requires, few-figures _ c.args.self.accepted)) ∙ c.sum.ensures.0 ∙ sum-plain c.args.figures.now)
