-- `all_figures` meets its contract.
use Rattle.figuring.proofs.AllFigures.{all-few, all_pass}
use native.Mathlib.Omega.{arith}
use Rattle.figuring.proofs.pass.all_figures.Goals as goal

pub returns-then-size_of-k : goal.returns-then-size_of-k
returns-then-size_of-k c =
    let r = c.requires in
    all-few r _ _ c.size_of.ensures (omega (arith, c.if-size_of-k.true, r.ready.k-some)) c.unrejected.ensures

pub returns : goal.returns
returns c = all_pass c.requires _ _ c.size_of.ensures c.if-size_of-k.false c.down.ensures
