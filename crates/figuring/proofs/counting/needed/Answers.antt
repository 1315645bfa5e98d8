-- `needed` meets its contract; each case is a law of proofs/PutBackCounts.antt.
use Rattle.figuring.proofs.PutBackCounts.{passed-within, first_walk, needed-few, needed-bounded, needed-walk}
use native.Mathlib.Omega.{arith}
use Rattle.figuring.proofs.counting.needed.Goals as goal

pub returns-then-size_of-k : goal.returns-then-size_of-k
returns-then-size_of-k c =
    needed-few c.requires _ _ _ (omega (arith, c.size_of.ensures, c.if-size_of-k.true)) c.count_holding.ensures c.max.ensures

pub overflow_sub-left : goal.overflow_sub-left
overflow_sub-left c = omega (arith, passed-within c.requires)

pub returns-then-c-best : goal.returns-then-c-best
returns-then-c-best c =
    needed-bounded c.requires _ (omega (arith, c.size_of.ensures, c.if-size_of-k.false)) _ c.count_holding-c.ensures c.if-c-best.true

pub walk-requires : goal.walk-requires
walk-requires c =
    let w = c.requires in
    (first_walk w, w.cols-most, w.marks-most, w.k-most, omega (arith, w.k-many), omega (arith, w.k-many))

pub returns : goal.returns
returns c =
    needed-walk c.requires _ (omega (arith, c.size_of.ensures, c.if-size_of-k.false)) _ c.walk.ensures
