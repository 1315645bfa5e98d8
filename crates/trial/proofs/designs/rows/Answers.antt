-- `trial::designs::rows` meets its contract.
use Rattle.trial.proofs.LaidOut.{rows-shift, rows-chosen}
use Rattle.trial.proofs.designs.rows.Goals as goal

pub overflow_shl-result : goal.overflow_shl-result
overflow_shl-result c = (rows-shift _ _ c.in-Paired.is c.requires).0

pub choice_count-requires : goal.choice_count-requires
choice_count-requires c = let r = rows-chosen _ _ _ c.in-Unpaired.is c.requires in (r.0, r.1)

pub returns-in-Paired : goal.returns-in-Paired
returns-in-Paired c = (rows-shift _ _ c.in-Paired.is c.requires).1

pub returns-in-Unpaired : goal.returns-in-Unpaired
returns-in-Unpaired c = (rows-chosen _ _ _ c.in-Unpaired.is c.requires).2 _ c.choice_count.ensures
