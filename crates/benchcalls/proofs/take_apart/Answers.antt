-- `take_apart`: each array is given a part.
use Prim.Native.Nat.{ℕ}
use mathlib.Core.Path.{refl, ap}
use mathlib.Core.List.{List, ◌∷◌}
use Rattle.benchcalls.proofs.Layouts.{one_by_one}
use Rattle.benchcalls.proofs.take_apart.Goals as goal

pub returns : goal.returns
returns c =
    let t = c.args.t in
    record { numbers_after = ap (λ (l : List ℕ). t.level.a ∷ t.level.b ∷ t.shape.k ∷ t.shape.offers ∷ l) (one_by_one _ _ c.layout.ensures); codes_after = refl; digits_after = refl; figures_after = refl }
