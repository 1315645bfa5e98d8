-- `mark_all` meets its contract.
use Rattle.masks.proofs.Marking.{all-inside, all-kept}
use native.Mathlib.Omega.{arith}
use Rattle.masks.proofs.rows.mark_all.Goals as goal

pub mark-requires : goal.mark-requires
mark-requires c =
    let e = c.every_row in
    let q = c.requires in
    (omega (arith, e.auto.kept, q.0), q.1, all-inside _ e.new.kept e.ensures)

pub returns : goal.returns
returns c =
    let e = c.every_row in
    (c.mark.ensures.0, all-kept _ _ _ _ _ _ c.mark.ensures.1 e.ensures, c.mark.ensures.2)
