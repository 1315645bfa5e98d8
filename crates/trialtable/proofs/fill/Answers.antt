-- `trialtable::fill` meets its contract: row 0, and then the blocks.
use Rattle.trialtable.specs.Internal.{table_for}
use Rattle.trialtable.proofs.Blocks.{first-held, rows_all}
use Rattle.trialtable.proofs.fill.Goals as goal

pub returns : goal.returns
returns g c =
    let a = c.args in
    let d = g.K.Kind.design a.kind in
    rows_all (table_for d a.offers a.figures.now) a.offers (first-held d a.offers a.figures.now _ c.requires) _ _ _ c.first_row.ensures c.blocks-2.ensures
