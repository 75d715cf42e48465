-- `search::nearest` meets its contract. Assumes nothing.
use Rattle.common_ancestors.proofs.Ends.{shallow, deep-not, ends_found, ends-nears}
use Rattle.common_ancestors.proofs.search.nearest.Goals as goal
use Rattle.common_ancestors.proofs.search.nearest.Goals.{then-table-du-via-then-table-du, then-table-du-via-else-table-du+then-table-dv}

-- a depth of a prepared table is less than its entries
pub returns-then-table-du-clause-right : goal.returns-then-table-du-clause-right
returns-then-table-du-clause-right c ps of =
    let pre = c.requires in
    elim c.then-table-du.branch [
      | then-table-du-via-then-table-du w ↦ absurd (deep-not ps _ _ of _ _ pre.0 c.depth_of-du.ensures w.if-table-du.true)
      | then-table-du-via-else-table-du+then-table-dv w ↦ absurd (deep-not ps _ _ of _ _ pre.1 c.depth_of-dv.ensures w.if-table-dv.true)
    ]

pub first_above-found-requires : goal.first_above-found-requires
first_above-found-requires c =
    let pre = c.requires in
    let s = shallow _ _ _ _ _ c.by_depth-ends.result c.by_depth-ends.ensures pre.0 pre.1 c.if-table-du.false c.if-table-dv.false in
    (s.first, s.depth)

pub returns-in_default-clause-right : goal.returns-in_default-clause-right
returns-in_default-clause-right c ps of =
    let right = rw c.in_default.is at c.first_above-found.ensures.right in
    absurd (ends_found ps _ _ _ _ _ _ of c.requires.0 c.requires.1 c.depth_of-du.ensures c.depth_of-dv.ensures c.by_depth-ends.result right c.by_depth-ends.ensures)

pub returns-clause-right : goal.returns-clause-right
returns-clause-right c ps of =
    let right = rw c.in-Some.is at c.first_above-found.ensures.right in
    ends-nears ps _ _ _ _ _ _ of c.requires.0 c.requires.1 c.depth_of-du.ensures c.depth_of-dv.ensures c.in-Some.near c.by_depth-ends.result right c.by_depth-ends.ensures
