-- `sections::sections` meets its contract. Assumes nothing.
use mathlib.Core.Path.{◌≡◌, sym, ap, ◌∙◌}
use lib.ListN.{length}
use Rattle.tree.specs.Parents.{depth}
use Rattle.tree.specs.Forest.{size}
use Rattle.table.specs.Ladders.{lad_pos}
use Rattle.prepare.specs.Arrays.{OneTree}
use Rattle.prepare.proofs.Preorder.{one-tree, order-many, array-length}
use Rattle.prepare.proofs.sections.Whole.{sectioned}
use Rattle.prepare.proofs.sections.sections.Goals as goal
use Rattle.prepare.proofs.sections.sections.Goals.{Start}

one : (c : Start) → OneTree c.args.tree.parents.now
one c = one-tree c.args.tree.few c.args.tree.judged

long : (c : Start) → length c.args.sizes.now ≡ length c.args.tree.parents.now
long c = array-length (one c) _ _ c.requires.arrays.0

pub scatter-requires : goal.scatter-requires
scatter-requires c = (long (goal.at.scatter-requires c).Start, c.split_at_mut-size.ensures.front_len)

pub paths-paths-requires-clause-room : goal.paths-paths-requires-clause-room
paths-paths-requires-clause-room c = (long (goal.at.paths-paths-requires-clause-room c).Start, c.split_at_mut-ladders.ensures.front_len)

pub scatter-requires-2 : goal.scatter-requires-2
scatter-requires-2 c = (c.paths-paths.auto.places ∙ long (goal.at.scatter-requires-2 c).Start, c.split_at_mut-ladpos.ensures.front_len)

pub scatter-requires-3 : goal.scatter-requires-3
scatter-requires-3 c = (array-length (one (goal.at.scatter-requires-3 c).Start) _ _ c.args.tree.deep, c.split_at_mut-depth.ensures.front_len)

pub copy-requires : goal.copy-requires
copy-requires c =
    ap length c.args.tree.orders ∙ order-many (one (goal.at.copy-requires c).Start) ∙ sym c.split_at_mut-order.ensures.front_len

pub returns-clause-laid : goal.returns-clause-laid
returns-clause-laid c =
    let ps = c.args.tree.parents.now in
    sectioned ps _ _ _ _ _ _ _ _ _ _ (one (goal.at.returns-clause-laid c).Start) c.split_at_mut-table.ensures.front_len
    (c.scatter-3.ensures (depth ps) c.args.tree.deep) c.kinds-numbered.ensures.laid (c.scatter-2.ensures (lad_pos ps) c.paths-paths.ensures.places) (c.copy.ensures ∙ c.args.tree.orders)
    c.positions.ensures (c.scatter.ensures (size ps) c.requires.arrays.0) c.paths-paths.ensures.laid c.groups.ensures
