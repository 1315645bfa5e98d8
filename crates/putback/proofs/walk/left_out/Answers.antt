-- `left_out` meets its contract.
use Rattle.putback.proofs.Pruning.{all-hopeless}
use mathlib.Core.Path.{subst}
use mathlib.Core.Bool.{Bool}
use lib.Dec.{T}
use Rattle.putback.proofs.walk.left_out.Goals as goal

pub returns-then-b-eq1 : goal.returns-then-b-eq1
returns-then-b-eq1 c = λ t. absurd t

pub returns-then-not-just_chosen : goal.returns-then-not-just_chosen
returns-then-not-just_chosen c = λ t. all-hopeless _ _ _ _ _ c.few_in_all.ensures t

pub returns : goal.returns
returns c = λ t. subst (λ (x : Bool). T x) c.hopeless.ensures t
