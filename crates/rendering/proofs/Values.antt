-- What holds of every value of a table, and of plus zero, holds of the critical values of all steps of a run.
--   records-hold      of its records
use mathlib.Core.Path.{refl}
use mathlib.Core.Bool.{Bool}
use mathlib.Core.List.{List, [], ◌∷◌, map}
use lib.Dec.{T}
use lib.Ieee.{Float}
use Rattle.limits.specs.Limits.{steps_most}
use Rattle.order.specs.Order.{plus_zero}
use Rattle.order.specs.Counting.{all}
use Rattle.order.proofs.Booleans.{and_both}
use Rattle.runs.specs.Stepdown.{record_of, steps_of, full_run}
use Rattle.runs.specs.declared.State.{State}
use Rattle.runs.specs.declared.Step.{Step}
use Rattle.runs.proofs.Steps.{EachStep, along, critical-keeps}

module _ (p : Float → Bool) (z : T (p plus_zero)) (X : List (List Float)) (h : T (all (all p) X)) where
  logged-hold : (ss : List Step) → EachStep (λ s. T (p s.logged.critical)) ss → T (all (λ m. p m.critical) (map (λ s. s.logged) ss))
  unfolding all
  logged-hold [] t = tt
  logged-hold (s ∷ ss) t = and_both (p s.logged.critical) (all (λ m. p m.critical) (map (λ s. s.logged) ss)) t.0 (logged-hold ss t.1)

  pub records-hold : (r : State) → T (all (λ m. p m.critical) (full_run X r).records)
  unfolding full_run steps_of record_of
  records-hold r = logged-hold (steps_of X r) (along X (λ _. Unit {0}) (λ s. T (p s.logged.critical)) (λ _ _ _. tt) (λ r _ _. critical-keeps X r p z h) steps_most r.ended r refl tt)
