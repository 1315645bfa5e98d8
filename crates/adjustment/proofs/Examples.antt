-- The examples of adjusted figures hold, all of them: the checker computes what is asked.
use mathlib.Core.Path.{◌≡◌, refl}
use mathlib.Core.List.{map}
use lib.Ieee.{lt, le}
use Rattle.adjustment.specs.Examples.{examples}

pub all-examples : map (λ x. x.asked) examples ≡ map (λ x. x.told) examples
unfolding examples lt le
all-examples = refl
