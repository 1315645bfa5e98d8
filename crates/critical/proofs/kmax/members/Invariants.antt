-- `members` meets its contract. The invariant: what is listed and what is still to be listed make the whole.
use Rattle.columns.specs.Columns.{columns_of}
use Rattle.critical.specs.Internal.{members_from}
use lib.ListN.{length, take}
use mathlib.Core.List.{◌++◌}
use Prim.Native.Nat.{◌≤◌, ◌-◌}
use mathlib.Core.Path.{◌≡◌}
use Rattle.critical.proofs.kmax.members.Given as goal

abbrev pub invariant-loop-i : goal.invariant-loop-i
invariant-loop-i l = (l.i ≤ l.columns) × (l.columns ≤ 32) × (l.n ≤ l.i) × (length l.at ≡ 32) × (take l.n l.at ++ members_from l.i (columns_of (l.columns - l.i) l.s) ≡ members_from 0 (columns_of l.columns l.set))
