-- `walk` meets its contract. What is left of the passed columns falls with each call, as a number; each case is a law of proofs/PutBackCounts.antt.
use native.Mathlib.Omega.{arith}
use mathlib.Core.Path.{◌∙◌}
use Rattle.masks.proofs.Marks.{holding-columns}
use Rattle.masks.proofs.Walks as walks
use Rattle.figuring.proofs.PutBackCounts.{odd-one, walk_none, walk-skip, walk-pruned, walk-leaf, walk-in}
use Rattle.figuring.proofs.counting.+walk.Goals as goal

pub returns-then-rest-eq0 : goal.returns-then-rest-eq0
returns-then-rest-eq0 t c = let a = c.args in walk_none a.marks.now a.columns a.k a.set a.rest a.from a.left a.best c.requires.4 c.if-rest-eq0.true

pub overflow_add-from : goal.overflow_add-from
overflow_add-from t c = omega (arith, walks.before-end c.requires.0 c.if-rest-eq0.false, c.requires.1)

pub walk-requires : goal.walk-requires
walk-requires t c =
    let q = c.requires in
    (walks.half-falls _ c.if-rest-eq0.false c.decreases, (walks.walk-past q.0 c.if-rest-eq0.false, q.1, q.2, q.3, q.4, q.5))

pub returns-then-rest-eq0-2 : goal.returns-then-rest-eq0-2
returns-then-rest-eq0-2 t c =
    let a = c.args in
    let i = c.if-rest-eq0.false in
    walk-skip a.marks.now a.columns a.k a.set a.rest a.from a.left a.best c.requires.4 (walks.before-end c.requires.0 i) _ c.if-rest-eq0-2.true c.walk.ensures

pub bit-requires : goal.bit-requires
bit-requires t c = omega (arith, walks.before-end c.requires.0 c.if-rest-eq0.false, c.requires.1)

pub overflow_add-chosen : goal.overflow_add-chosen
overflow_add-chosen t c =
    record { fits = walks.chosen-fits c.requires.0 c.if-rest-eq0.false (odd-one _ c.if-rest-eq0-2.false) c.requires.1 _ c.bit.ensures }

pub count_holding-c-requires : goal.count_holding-c-requires
count_holding-c-requires t c = let q = c.requires in (omega (arith, q.4, q.5), omega (arith, q.3, q.4), q.2)

-- the count of the rows that bear the choice out
pub returns-then-c-best : goal.returns-then-c-best
returns-then-c-best t c =
    let a = c.args in
    let q = c.requires in
    let i = c.if-rest-eq0.false in
    let w = walks.walk-in q.0 i (odd-one _ c.if-rest-eq0-2.false) _ c.bit.ensures in
    walk-pruned a.marks.now a.columns a.k a.set a.rest a.from a.left a.best q.4 (walks.before-end q.0 i) c.if-rest-eq0-2.false _ (walks.chosen-columns q.0 i (odd-one _ c.if-rest-eq0-2.false) _ c.bit.ensures) _
    (c.count_holding-c.ensures ∙ holding-columns _ _ _ _ q.1 w.inside) _ c.if-c-best.true c.walk-then-c-best.ensures

pub overflow_add-from-then-c-best : goal.overflow_add-from-then-c-best
overflow_add-from-then-c-best t c = omega (arith, walks.before-end c.requires.0 c.if-rest-eq0.false, c.requires.1)

pub walk-requires-then-c-best : goal.walk-requires-then-c-best
walk-requires-then-c-best t c =
    let q = c.requires in
    (walks.half-falls _ c.if-rest-eq0.false c.decreases, (walks.walk-past q.0 c.if-rest-eq0.false, q.1, q.2, q.3, q.4, q.5))

pub overflow_add-from-then-left-eq1 : goal.overflow_add-from-then-left-eq1
overflow_add-from-then-left-eq1 t c = omega (arith, walks.before-end c.requires.0 c.if-rest-eq0.false, c.requires.1)

pub walk-requires-then-left-eq1 : goal.walk-requires-then-left-eq1
walk-requires-then-left-eq1 t c =
    let q = c.requires in
    (walks.half-falls _ c.if-rest-eq0.false c.decreases, (walks.walk-past q.0 c.if-rest-eq0.false, q.1, q.2, q.3, q.4, q.5))

pub returns-then-left-eq1 : goal.returns-then-left-eq1
returns-then-left-eq1 t c =
    let a = c.args in
    let q = c.requires in
    let i = c.if-rest-eq0.false in
    let w = walks.walk-in q.0 i (odd-one _ c.if-rest-eq0-2.false) _ c.bit.ensures in
    walk-leaf a.marks.now a.columns a.k a.set a.rest a.from a.left a.best q.4 (walks.before-end q.0 i) c.if-rest-eq0-2.false _ (walks.chosen-columns q.0 i (odd-one _ c.if-rest-eq0-2.false) _ c.bit.ensures) _
    (c.count_holding-c.ensures ∙ holding-columns _ _ _ _ q.1 w.inside) _ c.if-c-best.false c.if-left-eq1.true c.walk-then-left-eq1.ensures

pub overflow_add-from-2 : goal.overflow_add-from-2
overflow_add-from-2 t c = omega (arith, walks.before-end c.requires.0 c.if-rest-eq0.false, c.requires.1)

pub walk-b-requires : goal.walk-b-requires
walk-b-requires t c =
    let q = c.requires in
    let i = c.if-rest-eq0.false in (
      walks.half-falls _ i c.decreases,
      (walks.walk-in q.0 i (odd-one _ c.if-rest-eq0-2.false) _ c.bit.ensures, q.1, q.2, q.3, omega (arith, q.4, c.if-left-eq1.false), omega (arith, q.5)),
    )

pub overflow_add-from-3 : goal.overflow_add-from-3
overflow_add-from-3 t c = omega (arith, walks.before-end c.requires.0 c.if-rest-eq0.false, c.requires.1)

pub walk-requires-2 : goal.walk-requires-2
walk-requires-2 t c =
    let q = c.requires in
    (walks.half-falls _ c.if-rest-eq0.false c.decreases, (walks.walk-past q.0 c.if-rest-eq0.false, q.1, q.2, q.3, q.4, q.5))

pub returns : goal.returns
returns t c =
    let a = c.args in
    let q = c.requires in
    let i = c.if-rest-eq0.false in
    walk-in a.marks.now a.columns a.k a.set a.rest a.from a.left a.best q.4 (walks.before-end q.0 i) c.if-rest-eq0-2.false _ (walks.chosen-columns q.0 i (odd-one _ c.if-rest-eq0-2.false) _ c.bit.ensures) _ _
    c.walk-b.ensures c.walk-2.ensures
