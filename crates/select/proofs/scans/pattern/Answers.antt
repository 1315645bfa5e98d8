-- `pattern` meets its contract: what is smaller than anything is a number.
use mathlib.Core.Path.{◌∙◌, ap}
use lib.Ieee.{binary64, to_bits}
use Rattle.select.specs.Internal.{chosen}
use Rattle.select.proofs.Steps.{smaller-number}
use Rattle.select.proofs.scans.pattern.Goals as goal
use Rattle.select.proofs.scans.pattern.Goals.{else-not-x-lo-via-then-not-x-lo+else-x-hi, else-not-x-lo-via-else-not-x-lo}

pub float_to_bits-result : goal.float_to_bits-result
float_to_bits-result c = smaller-number _ _ c.if-x-hi.true c.plus_zero.ensures

pub returns-then-x-hi : goal.returns-then-x-hi
unfolding chosen
returns-then-x-hi c = ap (to_bits binary64) c.plus_zero.ensures ∙ simp (c.if-not-x-lo.true, c.if-x-hi.true)

pub returns-else-not-x-lo : goal.returns-else-not-x-lo
unfolding chosen
returns-else-not-x-lo c = elim c.else-not-x-lo.branch [ else-not-x-lo-via-then-not-x-lo+else-x-hi w ↦ simp (w.if-not-x-lo.true, w.if-x-hi.false) | else-not-x-lo-via-else-not-x-lo w ↦ simp w.if-not-x-lo.false ]
