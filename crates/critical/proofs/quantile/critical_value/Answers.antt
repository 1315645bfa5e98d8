-- `critical_value` meets its contract.
use lib.Seq.{length-take-le}
use Rattle.critical.proofs.Members.{listed-room, listed_length, listed_is}
use Rattle.critical.proofs.TableRows.{back_is, front-rank}
use Rattle.masks.proofs.Parts.{any-k}
use Rattle.critical.proofs.LowestRow.{one_found, found-is}
use mathlib.Core.Path.{sym}
use native.Mathlib.Omega.{arith}
use Rattle.critical.proofs.quantile.critical_value.Goals as goal

pub slice_bounds-list-end : goal.slice_bounds-list-end
slice_bounds-list-end c = listed-room _ _ _ _ c.size_of-n.ensures c.members-list.ensures

pub slice_bounds-fill-end : goal.slice_bounds-fill-end
slice_bounds-fill-end c = listed_length _ _ _ _ c.size_of-n.ensures c.members-list.ensures

pub slice_bounds-mth_smallest-end-2 : goal.slice_bounds-mth_smallest-end-2
slice_bounds-mth_smallest-end-2 c = sym (length-take-le c.args.table.rows c.fill.new.work (omega (arith, c.fill.auto.work)))

pub fill-requires : goal.fill-requires
fill-requires c = let p = c.requires in (p.0, omega (arith, p.1, p.3), listed_is _ _ _ _ c.size_of-n.ensures c.members-list.ensures)

pub mth_smallest-c-requires : goal.mth_smallest-c-requires
mth_smallest-c-requires c =
    let p = c.requires in
    front-rank _ _ _ _ _ _ (any-k c.args.table.checked) p.2 _ _ c.fill.ensures

pub slice_bounds-first_equal-end-2 : goal.slice_bounds-first_equal-end-2
slice_bounds-first_equal-end-2 c = sym (length-take-le c.args.table.rows c.fill.new.work (omega (arith, c.fill.auto.work)))

pub returns : goal.returns
returns c =
    let p = c.requires in
    (one_found _ _ _ _ _ _ p.3 (found-is _ _ _ _ _ _ (any-k c.args.table.checked) p.2 _ _ c.fill.ensures _ _ c.mth_smallest-c.ensures c.first_equal.ensures), back_is _ _ _ _ _ _ (any-k c.args.table.checked) p.2 _ _ c.fill.ensures)
