-- `pass` meets its contract: what the pass counted, by the law of one bit more.
use native.Mathlib.Omega.{arith}
use mathlib.Core.Path.{refl}
use Rattle.select.proofs.Steps.{free-most, pass_fits, passed_on}
use Rattle.select.proofs.smallest.Sought.pass.Goals as goal

pub bit-requires : goal.bit-requires
bit-requires c = let q = c.requires in
    let s = c.args.self in omega (arith, free-most _ _ s.finite s.rank.0 s.rank.1 _ q.0)

pub overflow_add-middle : goal.overflow_add-middle
overflow_add-middle c =
    let q = c.requires in
    let s = c.args.self in
    omega (arith, pass_fits _ _ s.finite s.rank.0 s.rank.1 _ q.0 q.1 _ _ _ refl c.bit.ensures refl)

pub returns : goal.returns
returns c =
    let q = c.requires in
    let s = c.args.self in
    passed_on _ _ s.finite s.rank.0 s.rank.1 _ q.0 q.1 _ _ _ refl c.bit.ensures refl _ c.value_at.ensures c.count_below-n.ensures _ c.one_bit.ensures
