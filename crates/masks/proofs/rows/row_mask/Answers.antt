-- `row_mask` meets its contract. The invariant: what is marked and what is still to be marked make the whole.
use Rattle.order.proofs.Lists.{tabulate-length}
use Rattle.masks.specs.Marks.{passing}
use Rattle.masks.proofs.Marking.{mark-start, mark-turn, mark-done, mark-room, mark-fits, mark-within, bit_at}
use lib.ListN.{length, get_or}
use lib.Ieee.{nan}
use native.Mathlib.Omega.{arith}
use Prim.Native.Nat.{◌^◌}
use mathlib.Core.Path.{ap}
use Rattle.masks.proofs.rows.row_mask.Goals as goal

pub loop-i-init : goal.loop-i-init
loop-i-init c = let p = c.requires in (omega arith, p.0, p.1, omega arith, mark-start _ c.args.row.now)

pub bounds-bits-i : goal.bounds-bits-i
bounds-bits-i c = let l = c.loop-i.invariant in omega (arith, c.loop-i-test.true, l.1, ap length l.2, tabulate-length 32 (λ j. 2 ^ j))

pub overflow_add-m : goal.overflow_add-m
overflow_add-m c = let l = c.loop-i.invariant in let a = c.args in let b = passing a.bound (get_or a.row.now c.loop-i.i nan) in let d = bit_at _ _ _ b l.2 (omega (arith, c.loop-i-test.true, l.1)) c.bit_where-m.ensures in record { fits = mark-fits c.loop-i.i _ _ c.loop-i-test.true l.1 (mark-room _ _ _ b l.3 d) }

pub loop-i-preserved : goal.loop-i-preserved
loop-i-preserved c = let l = c.loop-i.invariant in let a = c.args in let b = passing a.bound (get_or a.row.now c.loop-i.i nan) in let d = bit_at _ _ _ b l.2 (omega (arith, c.loop-i-test.true, l.1)) c.bit_where-m.ensures in (omega arith, l.1, l.2, mark-room _ _ _ b l.3 d, mark-turn _ _ _ _ _ c.loop-i-test.true d l.4)

pub overflow_cast-result : goal.overflow_cast-result
overflow_cast-result c = let l = c.loop-i.invariant in record { fits = mark-within _ _ l.3 (omega (arith, l.0, l.1)) }

pub returns : goal.returns
returns c = mark-done _ _ _ _ c.loop-i-test.false c.loop-i.invariant.4
