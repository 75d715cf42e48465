-- `laying::path_top` meets its contract: every position but the first has an entry above, which stands earlier. Assumes nothing.
use mathlib.Core.Path.{sym, ap, ◌∙◌}
use native.Mathlib.Omega.{arith}
use Rattle.tree.specs.Forest.{path_top}
use Rattle.prepare.specs.Arrays.{OneTree, entry_at}
use Rattle.prepare.proofs.Preorder.{one-tree, array-length}
use Rattle.prepare.proofs.laying.Tops.{top-first, over-less, top-test}
use Rattle.prepare.proofs.laying.path_top.Goals as goal
use Rattle.prepare.proofs.laying.path_top.Goals.{Start}

one : (c : Start) → OneTree c.args.tree.parents.now
one c = one-tree c.args.tree.few c.args.tree.judged

pub returns-then-at-eq0 : goal.returns-then-at-eq0
returns-then-at-eq0 c =
    sym (top-first (one (goal.at.returns-then-at-eq0 c).Start) c.args.tree.over) ∙ ap (λ i. path_top c.args.tree.parents.now (entry_at c.args.tree.parents.now i)) (sym c.if-at-eq0.true)

pub bounds-tree-at : goal.bounds-tree-at
bounds-tree-at c = omega (arith, c.requires.1, array-length (one (goal.at.bounds-tree-at c).Start) _ _ c.args.tree.over)

pub bounds-longs-over : goal.bounds-longs-over
bounds-longs-over c =
    let t = one (goal.at.bounds-longs-over c).Start in
    omega (arith, over-less t c.args.tree.over c.args.at.0 (omega arith) c.requires.1, c.requires.1, array-length t _ _ c.requires.0)

pub returns : goal.returns
returns c = sym (top-test (one (goal.at.returns c).Start) c.args.tree.over c.args.at.0 (omega arith) c.requires.1 c.requires.0)
