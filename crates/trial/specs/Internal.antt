-- A definition that laws cite, and private functions of `trialtable`; no contract of this crate does. Definitions only; a reader of the promises doesn't need it.
--   Ranged n xs                      the first n figures are in range
use Rattle.std.specs.Prelude.{ℕ, ◌≤◌, ◌<◌, List, get_or, ℤ, pos, nat_abs}
use Rattle.limits.specs.Limits.{difference_most}

abbrev pub Ranged : ℕ → List ℤ → Type 0
Ranged n xs = (i : ℕ) → i < n → nat_abs (get_or xs i (pos 0)) ≤ difference_most
