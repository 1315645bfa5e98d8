-- `Pairs::blocks` meets its contract. The loop's invariant: the buffer holds the table's first 2^j rows, and from there on what it held.
use mathlib.Core.Path.{◌≡◌}
use Prim.Native.Nat.{◌*◌, ◌^◌}
use Rattle.trial.specs.declared.Design.TheVariants.{Paired}
use Rattle.trialtable.specs.Internal.{table_for, begun}
use Rattle.trialtable.proofs.pairs.PairsKind.blocks.Given as goal

abbrev pub invariant-loop-j : goal.invariant-loop-j
invariant-loop-j l = l.out ≡ begun (2 ^ l.j * l.offers) (table_for (Paired l.fn.self.pairs) l.offers l.figures) l.initial.out
