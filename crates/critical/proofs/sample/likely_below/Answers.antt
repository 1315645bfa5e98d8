-- `likely_below` meets its contract.
use Rattle.critical.proofs.Members.{listed-room, listed_length, listed_is}
use Rattle.critical.proofs.Sampling.{quantile-low}
use lib.Ieee.{of_bits}
use lib.Seq.{length-take-le}
use mathlib.Core.Path.{refl, sym}
use native.Mathlib.Omega.{arith}
use Rattle.critical.proofs.sample.likely_below.Goals as goal

pub returns-then-size-table : goal.returns-then-size-table
unfolding of_bits
returns-then-size-table c = (tt, refl)

pub slice_bounds-fill_sample-end : goal.slice_bounds-fill_sample-end
slice_bounds-fill_sample-end c = listed_length _ _ _ _ c.size_of-size.ensures c.members-list.ensures

pub slice_bounds-list-end : goal.slice_bounds-list-end
slice_bounds-list-end c = listed-room _ _ _ _ c.size_of-size.ensures c.members-list.ensures

pub fill_sample-n-requires : goal.fill_sample-n-requires
fill_sample-n-requires c = let q = c.requires in (q.0, omega (arith, c.size_of-size.ensures, c.if-size-table.false), listed_is _ _ _ _ c.size_of-size.ensures c.members-list.ensures)

pub returns-then-n-above : goal.returns-then-n-above
unfolding of_bits
returns-then-n-above c = (tt, c.fill_sample-n.ensures.2)

pub slice_bounds-mth_smallest-end-2 : goal.slice_bounds-mth_smallest-end-2
slice_bounds-mth_smallest-end-2 c = let f = c.fill_sample-n in sym (length-take-le f.result f.new.work (omega (arith, f.ensures.0, f.auto.work, c.requires.0)))

pub mth_smallest-requires : goal.mth_smallest-requires
mth_smallest-requires c = let f = c.fill_sample-n in (f.ensures.1, omega (arith, c.if-n-above.false), omega (arith, slice_bounds-mth_smallest-end-2 c))

pub returns : goal.returns
returns c = let f = c.fill_sample-n in (quantile-low _ _ f.ensures.1 c.mth_smallest.ensures, f.ensures.2)
