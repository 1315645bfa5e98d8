-- `has_at_least` meets its contract.
use Rattle.masks.proofs.SetSizes.{left_over}
use native.Mathlib.Omega.{arith}
use Rattle.masks.proofs.rows.has_at_least.Goals as goal

pub returns : goal.returns
returns c = let p = c.requires in left_over _ _ _ _ _ (omega arith) p.0 p.1 c.one_fewer-a.ensures c.one_fewer-b.ensures c.one_fewer-c.ensures
