-- `trialtable::rows::all_taken_off` meets its contract. The loop's invariant: the rows before that of j hold what they should.
use mathlib.Core.Path.{◌≡◌}
use Prim.Native.Nat.{ℕ, ◌≤◌, ◌<◌}
use lib.ListN.{length}
use Rattle.limits.specs.Limits.{figures_most}
use Rattle.trialtable.specs.Internal.{first_step, TakenOff}
use Rattle.trialtable.proofs.rows.all_taken_off.Given as goal

abbrev pub invariant-loop-j : goal.invariant-loop-j
invariant-loop-j g l =
    let d = g.K.Kind.design l.kind in
    (length l.off ≡ figures_most) × ((k : ℕ) → first_step d ≤ k → k < l.j → TakenOff d l.offers l.figures l.off k)
