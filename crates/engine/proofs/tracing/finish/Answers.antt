-- `finish` meets its contract.
use Rattle.order.specs.Lists.{tabulate}
use Rattle.engine.proofs.FullRuns.{verdicts-turn, counts-turn, finished-by}
use lib.Ieee.{of_bits}
use Prim.Native.Nat.{◌<◌}
use native.Mathlib.Omega.{arith}
use mathlib.Core.Path.{refl, ap, ◌∙◌}
use Rattle.std.specs.Prelude.{slice_set}
use Rattle.engine.proofs.tracing.finish.Goals as goal

pub loop-j-init : goal.loop-j-init
unfolding of_bits tabulate
loop-j-init c = (refl, refl)

pub loop-j-preserved : goal.loop-j-preserved
loop-j-preserved c =
    let l = c.loop-j.invariant in
    let t = c.loop-j-test.true in
    let h : c.loop-j.j < 32 = omega (arith, c.requires.0.cols-most, t) in (
      ap (λ vs. slice_set vs c.loop-j.j c.verdict_at.result) l.0 ∙ verdicts-turn c.args.t c.args.live _ _ h c.verdict_at.ensures,
      ap (λ ns. slice_set ns c.loop-j.j c.count_at.result) l.1 ∙ counts-turn c.args.table.now c.args.rows c.args.columns c.args.observed c.args.live _ _ _ h t c.at_least-all.ensures c.count_at.ensures,
    )

pub returns : goal.returns
returns c =
    let l = c.loop-j.invariant in
    finished-by c.args.t c.args.table.now c.args.rows c.args.columns c.args.e c.args.observed c.args.live _ _ _ (omega (arith, c.loop-j.auto.j-end, c.loop-j-test.false)) l.0 l.1
