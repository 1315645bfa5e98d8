-- `trialtable::rows::taken_row` meets its contract. The loop's invariant: the first i places of the row hold what they should, and those before it what they held.
use mathlib.Core.Path.{◌≡◌}
use Prim.Native.Nat.{ℕ, ◌<◌, ◌+◌, ◌*◌}
use lib.ListN.{get_or, take, drop}
use lib.Ieee.{nan, binary64, of_int}
use Rattle.limits.specs.Limits.{offers_most}
use Rattle.trial.specs.Designs.{units_of}
use Rattle.trialtable.specs.Internal.{taken_off}
use Rattle.trialtable.proofs.rows.taken_row.Given as goal

abbrev pub invariant-loop-i : goal.invariant-loop-i
invariant-loop-i g l =
    let d = g.K.Kind.design l.kind in
    ((k : ℕ) → k < l.i → get_or l.off (offers_most * l.j + k) nan ≡ of_int binary64 (taken_off d l.j (take (units_of d) (drop (k * units_of d) l.figures))))
    × ((p : ℕ) → p < offers_most * l.j → get_or l.off p nan ≡ get_or l.initial.off p nan)
