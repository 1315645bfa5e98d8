-- `alone` meets its contract.
use Rattle.putback.proofs.BarOf.{alone-bar}
use Rattle.putback.proofs.alone.Goals as goal

pub returns : goal.returns
returns c = let v = c.critical_value-c.ensures in (alone-bar _ c.args.table.checked _ _ c.requires.3 v.0, v.1)
