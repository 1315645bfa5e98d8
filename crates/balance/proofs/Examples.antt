-- The examples of balanced tables hold, all of them: the checker computes what is asked.
use mathlib.Core.Path.{◌≡◌, refl}
use mathlib.Core.List.{map}
use lib.Ieee.{of_int, lt, le}
use Rattle.balance.specs.Balance.{balanced_table}
use Rattle.balance.specs.Examples.{examples}

pub all-examples : map (λ x. balanced_table x.table x.rows x.columns) examples ≡ map (λ x. x.told) examples
unfolding examples balanced_table of_int lt le
all-examples = refl
