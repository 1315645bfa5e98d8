-- `bit_where` meets its contract.
use Rattle.masks.specs.Marks.{passing}
use Rattle.masks.proofs.Marking.{bit_in, bit-out}
use mathlib.Core.Path.{sym, ◌∙◌}
use Rattle.masks.proofs.rows.bit_where.Goals as goal

pub returns-then-passes : goal.returns-then-passes
returns-then-passes c = let a = c.args in bit_in a.b (passing a.bound a.x) (sym c.passes.ensures ∙ c.if-passes.true)

pub returns : goal.returns
returns c = let a = c.args in bit-out a.b (passing a.bound a.x) (sym c.passes.ensures ∙ c.if-passes.false)
