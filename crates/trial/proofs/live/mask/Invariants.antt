-- `trial::live::mask` meets its contract. The loop's invariant: m is the mask of the offers from i on.
use mathlib.Core.Path.{◌≡◌}
use Prim.Native.Nat.{◌*◌, ◌≤◌}
use Rattle.limits.specs.Limits.{figures_most}
use Rattle.trial.proofs.Aside.{mask_from}
use Rattle.trial.proofs.live.mask.Given as goal

abbrev pub invariant-loop-i : goal.invariant-loop-i
invariant-loop-i l = (1 ≤ l.n) × (l.t.shape.offers * l.n ≤ figures_most) × (l.m ≡ mask_from l.t.shape.design l.t.shape.offers l.n l.t.figures l.i)
