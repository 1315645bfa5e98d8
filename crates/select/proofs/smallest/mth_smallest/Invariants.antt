-- `mth_smallest` meets its contract. The invariant: what is held is what a search holds; each pass leaves fewer bits free.
use Rattle.select.specs.Internal.{Holds}
use Rattle.select.proofs.smallest.mth_smallest.Given as goal

abbrev pub invariant-loop-h : goal.invariant-loop-h
invariant-loop-h l = Holds l.m l.xs l.h

abbrev pub decreases-loop-h : goal.decreases-loop-h
decreases-loop-h l = l.h.free
