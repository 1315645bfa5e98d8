-- `Shops::blocks` meets its contract. The loop's invariant: the buffer holds the rows whose choices have the shops before p, and from there on what it held.
use mathlib.Core.Path.{◌≡◌}
use Prim.Native.Nat.{◌-◌, ◌*◌}
use lib.ListN.{length}
use Rattle.trial.specs.Choices.{choices}
use Rattle.trial.specs.declared.Design.TheVariants.{Unpaired}
use Rattle.trialtable.specs.Internal.{table_for, begun}
use Rattle.trialtable.proofs.shops.ShopsKind.blocks.Given as goal

abbrev pub invariant-loop-p : goal.invariant-loop-p
invariant-loop-p l =
    let a = l.fn.self in
    (l.at ≡ length (choices (a.shops - l.p) (a.treated - l.p))) × (l.out ≡ begun (l.at * l.offers) (table_for (Unpaired a.shops a.treated) l.offers l.figures) l.initial.out)
