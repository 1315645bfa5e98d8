-- `Shops::without` meets its contract. The loop's invariant: `at` rows come before those of shop m, the buffer holds them, and from there on what it held.
use mathlib.Core.Path.{◌≡◌}
use Prim.Native.Nat.{◌*◌}
use Rattle.trial.specs.declared.Design.TheVariants.{Unpaired}
use Rattle.trialtable.specs.Internal.{table_for, begun}
use Rattle.trialtable.proofs.Choosing.{block_at}
use Rattle.trialtable.proofs.shops.Shops.without.Given as goal

abbrev pub invariant-loop-m : goal.invariant-loop-m
invariant-loop-m l =
    let a = l.fn in
    (l.at ≡ block_at a.self.shops a.self.treated a.p l.m) × (l.out ≡ begun (l.at * l.offers) (table_for (Unpaired a.self.shops a.self.treated) l.offers a.figures) l.initial.out)
