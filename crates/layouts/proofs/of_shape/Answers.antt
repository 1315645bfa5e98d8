-- `layouts::of_shape` meets its contract.
use native.Mathlib.Omega.{arith}
use Rattle.trial.proofs.LaidOut.{count_most}
use Rattle.layouts.proofs.Layouts.{layout-made}
use Rattle.layouts.proofs.of_shape.Goals as goal

pub overflow_mul-end : goal.overflow_mul-end
overflow_mul-end c = let h = count_most c.args.shape _ c.requires.0 c.requires.1 c.units.ensures in omega arith

pub overflow_add-end : goal.overflow_add-end
overflow_add-end c = let h = count_most c.args.shape _ c.requires.0 c.requires.1 c.units.ensures in omega arith

pub returns : goal.returns
returns c = layout-made c.args.shape _ c.units.ensures
