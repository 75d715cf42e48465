-- `laying::settle` meets its contract. Assumes nothing.
use mathlib.Core.Path.{ap, ◌∙◌}
use native.Mathlib.Omega.{arith}
use lib.ListN.{length}
use Rattle.prepare.specs.Arrays.{OneTree}
use Rattle.prepare.proofs.Preorder.{one-tree, order-many}
use Rattle.prepare.proofs.laying.settle.Goals as goal
use Rattle.prepare.proofs.laying.settle.Goals.{Start}

one : (c : Start) → OneTree c.args.tree.parents.now
one c = one-tree c.args.tree.few c.args.tree.judged

pub bounds-tree-at : goal.bounds-tree-at
bounds-tree-at c = omega (arith, c.requires.0, ap length c.args.tree.orders ∙ order-many (one (goal.at.bounds-tree-at c).Start))
