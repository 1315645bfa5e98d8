-- `copy` meets its contract.
use native.Mathlib.Omega.{arith}
use mathlib.Core.Path.{refl, ap, ◌∙◌}
use mathlib.Core.List.{List, map-id}
use lib.Ieee.{Float, nan}
use Rattle.refusals.specs.Buffers.{written}
use Rattle.refusals.proofs.Buffers.{filled-start, filled-turn, filled-end}
use Rattle.tablebalance.proofs.copy.Goals as goal

pub loop-i-init : goal.loop-i-init
loop-i-init c = filled-start (λ (x : Float). x) c.args.table.now c.args.out.now nan

pub loop-i-preserved : goal.loop-i-preserved
loop-i-preserved c = filled-turn (λ (x : Float). x) c.args.table.now c.args.out.now nan _ _ _ nan c.loop-i-test.true (omega (arith, c.requires, c.loop-i-test.true)) c.loop-i.invariant refl

pub returns : goal.returns
returns c = filled-end (λ (x : Float). x) c.args.table.now c.args.out.now nan c.loop-i.i c.loop-i.out (omega (arith, c.loop-i-test.false)) (omega arith) c.loop-i.invariant ∙ ap (λ (ys : List Float). written ys c.args.out.now) (map-id c.args.table.now)
