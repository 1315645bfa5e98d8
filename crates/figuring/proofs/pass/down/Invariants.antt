-- `down` meets its contract. The invariant is `Midway` (proofs/Midway.antt).
use Rattle.figuring.proofs.Midway.{Midway}
use lib.ListN.{length}
use mathlib.Core.Path.{◌≡◌}
use Prim.Native.Nat.{◌≤◌}
use Rattle.figuring.proofs.pass.down.Given as goal

abbrev pub invariant-loop-s : goal.invariant-loop-s
invariant-loop-s l =
    (length l.ms ≡ 4096) × (l.n ≤ 32) × Midway l.table.values.now l.table.rows l.table.columns l.table.k l.observed l.live l.order l.n l.figures l.passed l.figure l.last l.s
