-- `Shops::taken_off` meets its contract.
use Prim.Native.Nat.{◌-◌}
use mathlib.Core.Path.{ap}
use native.Mathlib.Omega.{arith}
use lib.ListN.{get_or}
use lib.IntN.{pos}
use lib.Ieee.{binary64, of_int}
use mir.Syntax.{w64}
use Rattle.order.proofs.Signed.{abs-fits}
use Rattle.trialtable.specs.Internal.{taken_off, first_step}
use Rattle.trialtable.proofs.Arithmetic.{step-fits, step-float, step-is}
use Rattle.trialtable.proofs.Chosen.{shops-known}
use Rattle.trialtable.proofs.shops.ShopsKind.taken_off.Goals as goal

pub overflow_sub-j : goal.overflow_sub-j
unfolding first_step
overflow_sub-j c = c.requires.1.0

pub overflow_cast-result : goal.overflow_cast-result
overflow_cast-result c = abs-fits w64 (pos c.args.self.shops) (omega (arith, shops-known c.args.self.shops c.args.self.treated c.args.self.accepted))

pub overflow_mul-result : goal.overflow_mul-result
overflow_mul-result c =
    let a = c.args in
    step-fits a.self.shops (get_or a.figures.now (a.j - 1) (pos 0)) (get_or a.figures.now a.j (pos 0)) c.from-x.result c.from-y.result (omega (arith, shops-known a.self.shops a.self.treated a.self.accepted))
    (record { sfits = omega arith }) (record { sfits = omega arith }) c.from-x.ensures c.from-y.ensures

pub int_to_float-result : goal.int_to_float-result
int_to_float-result c =
    let a = c.args in
    step-float a.self.shops (get_or a.figures.now (a.j - 1) (pos 0)) (get_or a.figures.now a.j (pos 0)) c.from-x.result c.from-y.result (omega (arith, shops-known a.self.shops a.self.treated a.self.accepted))
    (record { sfits = omega arith }) (record { sfits = omega arith }) c.from-x.ensures c.from-y.ensures

pub returns : goal.returns
unfolding taken_off
returns c =
    let a = c.args in
    ap (of_int binary64) (step-is a.self.shops (get_or a.figures.now (a.j - 1) (pos 0)) (get_or a.figures.now a.j (pos 0)) c.from-x.result c.from-y.result (omega (arith, shops-known a.self.shops a.self.treated a.self.accepted))
    (record { sfits = omega arith }) (record { sfits = omega arith }) c.from-x.ensures c.from-y.ensures)
