-- `row` meets its contract: each cell is the field's, and so the table's. Assumes nothing.
use Rattle.std.proofs.Common.{◌∙◌, arith}
use Rattle.shapes.specs.Climbs.{row_of}
use Rattle.shapes.proofs.Sevens.{seven}
use Rattle.shapes.proofs.row.Goals as goal

pub returns : goal.returns
unfolding row_of
returns c =
    let cells = c.climbs_of-climbs.ensures.cells in
    let (long, row) = c.loop-k.invariant in
    seven 0 _ _ long (λ j h. row j (omega arith) ∙ cells j)
