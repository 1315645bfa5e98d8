-- `Pairs::taken_off` meets its contract.
use mathlib.Core.Path.{ap}
use native.Mathlib.Omega.{arith}
use lib.ListN.{get_or}
use lib.IntN.{pos}
use lib.Ieee.{binary64, of_int}
use Rattle.trialtable.specs.Internal.{taken_off}
use Rattle.trialtable.proofs.Arithmetic.{twice_is}
use Rattle.trialtable.proofs.pairs.PairsKind.taken_off.Goals as goal

pub returns : goal.returns
unfolding taken_off
returns c = ap (of_int binary64) (twice_is (get_or c.args.figures.now c.args.j (pos 0)) c.from-x.result (record { sfits = omega arith }) c.from-x.ensures)
