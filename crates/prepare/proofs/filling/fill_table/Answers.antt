-- `fill_table` meets its contract. Assumes nothing.
use mathlib.Core.Path.{◌≡◌, ap, ◌∙◌}
use lib.ListN.{length, take}
use Rattle.base.specs.Lists.{view}
use Rattle.prepare.specs.Arrays.{order_of, depths_of}
use Rattle.prepare.proofs.Preorder.{judged-none}
use Rattle.prepare.proofs.records.Rows.{finished}
use Rattle.prepare.proofs.filling.fill_table.Goals as goal
use Rattle.prepare.proofs.filling.fill_table.Goals.{After-split_at_mut-heights}

orders : (c : After-split_at_mut-heights) → c.split_at_mut-order.result.0.now ≡ order_of c.args.parents.now
unfolding view
orders c = c.split_at_mut-order.ensures.front ∙ c.requires.0.orders

depths : (c : After-split_at_mut-heights) → c.split_at_mut-depths.result.0.now ≡ depths_of c.args.parents.now
unfolding view
depths c = c.split_at_mut-depths.ensures.front ∙ ap (take (length c.args.parents.now)) c.split_at_mut-order.ensures.back ∙ c.requires.0.depths

pub above-requires : goal.above-requires
above-requires c =
    (c.requires.0.one, depths (goal.at.above-requires c).After-split_at_mut-heights, c.split_at_mut-aboves.ensures.front_len, c.split_at_mut-heights.ensures.front_len)

pub invariant_of-tree : goal.invariant_of-tree
invariant_of-tree c =
    let s = (goal.at.invariant_of-tree c).After-split_at_mut-heights in
    record { few = c.requires.0.one.few; judged = judged-none c.requires.0.one; orders = orders s; deep = depths s; over = c.above.ensures }

pub returns : goal.returns
returns c =
    let made = c.sections-counts.ensures in
    finished c.requires.0.one made.laid (c.sections-counts.auto.table ∙ c.requires.1) _ _ _ _ _ made.jumps made.groups made.paths c.jump_section.ensures c.header_cells.ensures
