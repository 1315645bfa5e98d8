-- `climb` meets its contract: of one set, or of a walk.
use Rattle.putback.proofs.Beginning.{start-going}
use Rattle.putback.proofs.Walking.{leaf-value}
use native.Mathlib.Omega.{arith}
use Rattle.putback.proofs.start.climb.Goals as goal

pub leaf-one-requires : goal.leaf-one-requires
leaf-one-requires c =
    let m = c.mark_all-n in
    let q = c.requires in
    (start-going _ _ _ _ _ _ m.new.kept m.new.marks _ _ m.result c.args.table.checked q.1 q.0 (omega (arith, m.auto.kept, q.3)) (omega (arith, m.auto.marks, q.4)) q.5 m.ensures.0 m.ensures.1 m.ensures.2, q.2.walk.inside, omega (arith, q.2.many, c.if-b-eq0.true))

pub returns-then-b-eq0 : goal.returns-then-b-eq0
returns-then-b-eq0 c =
    let l = c.leaf-one.ensures in
    (leaf-value _ _ _ _ c.requires.2 _ _ c.if-b-eq0.true l.0, l.1)

pub walk-h-requires : goal.walk-h-requires
walk-h-requires c =
    let m = c.mark_all-n in
    let q = c.requires in
    (start-going _ _ _ _ _ _ m.new.kept m.new.marks _ _ m.result c.args.table.checked q.1 q.0 (omega (arith, m.auto.kept, q.3)) (omega (arith, m.auto.marks, q.4)) q.5 m.ensures.0 m.ensures.1 m.ensures.2, q.2)

pub returns : goal.returns
returns c = let w = c.walk-h.ensures in (w.0, w.1)
