-- `gathering_pass` meets its contract: the law of bits that all values left share, and where they share none that of one bit more.
use native.Mathlib.Omega.{arith}
use mathlib.Core.Path.{refl, ap, ◌∙◌}
use Rattle.select.specs.Passes.{top_bits}
use Rattle.select.proofs.Steps.{free-most, pass_fits, pass-room, passed_on, shared-on}
use Rattle.select.proofs.smallest.Sought.gathering_pass.Goals as goal

pub bit-requires : goal.bit-requires
bit-requires c = let q = c.requires in
    let s = c.args.self in omega (arith, free-most _ _ s.finite s.rank.0 s.rank.1 _ q.0)

pub overflow_add-middle : goal.overflow_add-middle
overflow_add-middle c =
    let q = c.requires in
    let s = c.args.self in
    omega (arith, pass_fits _ _ s.finite s.rank.0 s.rank.1 _ q.0 q.1 _ _ _ refl c.bit.ensures refl)

pub value_past-requires : goal.value_past-requires
value_past-requires c =
    let q = c.requires in
    let s = c.args.self in
    (omega (arith, free-most _ _ s.finite s.rank.0 s.rank.1 _ q.0), pass-room _ _ s.finite s.rank.0 s.rank.1 _ q.0 q.1 _ _ _ refl c.bit.ensures refl)

pub cleared-requires : goal.cleared-requires
cleared-requires c =
    let q = c.requires in
    let s = c.args.self in
    omega (arith, c.if-free-h.true, free-most _ _ s.finite s.rank.0 s.rank.1 _ q.0)

pub returns-then-free-h : goal.returns-then-free-h
returns-then-free-h c =
    let q = c.requires in
    let s = c.args.self in (
      omega (arith, c.if-free-h.true),
      shared-on _ _ s.finite s.rank.0 s.rank.1 _ q.0 q.1 _ _ _ refl c.bit.ensures refl c.value_at-2.ensures c.value_past.ensures _ _ c.gather-left.ensures.1 c.gather-left.ensures.2 (omega (arith, c.struct_known-3-1.given)) _
          c.bits_of-free.ensures.0 c.bits_of-free.ensures.1 c.if-free-h.true _ _ _ _ (c.cleared.ensures ∙ ap (top_bits c.bits_of-free.result) c.bits_place.ensures),
    )

pub returns-else-free-h : goal.returns-else-free-h
returns-else-free-h c =
    let q = c.requires in
    let s = c.args.self in
    (omega (arith, c.one_bit.ensures.1, q.1), (passed_on _ _ s.finite s.rank.0 s.rank.1 _ q.0 q.1 _ _ _ refl c.bit.ensures refl _ c.value_at.ensures c.gather-left.ensures.0 _ c.one_bit.ensures).2)
