-- `laying::next_place` meets its contract. Assumes nothing.
use native.Mathlib.Omega.{arith}
use Rattle.prepare.specs.Arrays.{OneTree}
use Rattle.prepare.proofs.Preorder.{one-tree, array-length}
use Rattle.prepare.proofs.laying.Tops.{from_less, next_small, next_place}
use Rattle.prepare.proofs.laying.next_place.Goals as goal
use Rattle.prepare.proofs.laying.next_place.Goals.{Start}

one : (c : Start) → OneTree c.args.tree.parents.now
one c = one-tree c.args.tree.few c.args.tree.judged

pub bounds-tree-at : goal.bounds-tree-at
bounds-tree-at c = omega (arith, c.requires.2, array-length (one (goal.at.bounds-tree-at c).Start) _ _ c.args.tree.over)

pub bounds-places-over : goal.bounds-places-over
bounds-places-over c = omega (arith, from_less (one (goal.at.bounds-places-over c).Start) c.args.tree.over c.args.at.0 c.requires.2 c.requires.0, c.requires.2, c.requires.3)

pub overflow_add-result : goal.overflow_add-result
overflow_add-result c =
    omega (arith, next_small (one (goal.at.overflow_add-result c).Start) c.args.tree.over c.args.at.0 c.requires.2 c.requires.0 c.args.places.now c.requires.1)

pub returns : goal.returns
returns c = next_place (one (goal.at.returns c).Start) c.args.tree.over c.args.at.0 c.requires.2 c.requires.0 c.args.places.now c.requires.1
