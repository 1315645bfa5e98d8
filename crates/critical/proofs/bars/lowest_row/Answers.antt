-- `lowest_row` meets its contract.
use Rattle.critical.proofs.Members.{listed-room, listed_length, listed_is}
use Rattle.critical.proofs.bars.lowest_row.Goals as goal

pub slice_bounds-list-end : goal.slice_bounds-list-end
slice_bounds-list-end c = listed-room _ _ _ _ c.size_of-n.ensures c.members-list.ensures

pub slice_bounds-row_with-end : goal.slice_bounds-row_with-end
slice_bounds-row_with-end c = listed_length _ _ _ _ c.size_of-n.ensures c.members-list.ensures

pub row_with-requires : goal.row_with-requires
row_with-requires c = let q = c.requires in (q.0, q.1, listed_is _ _ _ _ c.size_of-n.ensures c.members-list.ensures)
