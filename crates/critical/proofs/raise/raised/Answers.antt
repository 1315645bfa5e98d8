-- `raised` meets its contract.
use lib.Seq.{length-take-le}
use Rattle.critical.proofs.Members.{listed-room, listed_length, listed_is}
use Rattle.critical.proofs.Raising.{raised-enough, raised-rank, raised_is}
use mathlib.Core.Path.{sym}
use native.Mathlib.Omega.{arith}
use Rattle.critical.proofs.raise.raised.Goals as goal

pub slice_bounds-fill_above-end : goal.slice_bounds-fill_above-end
slice_bounds-fill_above-end c = listed_length _ _ _ _ c.size_of-size.ensures c.members-list.ensures

pub slice_bounds-list-end : goal.slice_bounds-list-end
slice_bounds-list-end c = listed-room _ _ _ _ c.size_of-size.ensures c.members-list.ensures

pub fill_above-n-requires : goal.fill_above-n-requires
fill_above-n-requires c = let q = c.requires in (q.0, q.1, q.2, listed_is _ _ _ _ c.size_of-size.ensures c.members-list.ensures, q.3)

pub slice_bounds-mth_smallest-end-2 : goal.slice_bounds-mth_smallest-end-2
slice_bounds-mth_smallest-end-2 c = sym (length-take-le c.fill_above-n.result c.fill_above-n.new.work (omega (arith, c.fill_above-n.ensures.0, c.fill_above-n.auto.work, c.requires.0)))

pub overflow_sub-n : goal.overflow_sub-n
overflow_sub-n c = let f = c.fill_above-n in let p = c.requires in let q = raised-enough c.args.table.checked p.1 p.2 p.3 p.4 f.result f.new.work f.ensures.1 (omega (arith, f.ensures.0, f.auto.work, p.0)) in omega (arith, q)

pub mth_smallest-requires : goal.mth_smallest-requires
mth_smallest-requires c = let f = c.fill_above-n in let p = c.requires in raised-rank c.args.table.checked p.1 p.2 p.3 p.4 f.result f.new.work f.ensures.1 (omega (arith, f.ensures.0, f.auto.work, p.0))

pub returns : goal.returns
returns c = let f = c.fill_above-n in let p = c.requires in (raised_is c.args.table.checked p.1 p.2 p.3 p.4 f.result f.new.work f.ensures.1 (omega (arith, f.ensures.0, f.auto.work, p.0)) c.mth_smallest.ensures, f.ensures.2)
