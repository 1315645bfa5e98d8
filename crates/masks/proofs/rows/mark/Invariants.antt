-- `mark` meets its contract. The invariant is `Remarked` (proofs/Marking.antt).
use Rattle.masks.specs.Marks.{passing}
use Rattle.masks.proofs.Marking.{Remarked}
use Rattle.masks.proofs.rows.mark.Given as goal

abbrev pub invariant-loop-i : goal.invariant-loop-i
invariant-loop-i l = Remarked l.table.values.now l.table.rows l.table.columns l.table.k l.n (passing l.bound) l.initial.kept l.initial.marks l.kept l.marks l.m l.i
