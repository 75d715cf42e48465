-- `laying::top_place` meets its contract. Assumes nothing.
use mathlib.Core.Path.{◌≡◌, ap, ◌∙◌}
use Prim.Native.Nat.{◌+◌, min}
use native.Mathlib.Omega.{arith}
use Rattle.tree.specs.Parents.{depth}
use Rattle.prepare.specs.Arrays.{OneTree, entry_at}
use Rattle.prepare.proofs.Preorder.{one-tree, array-length, array-words}
use Rattle.prepare.proofs.laying.Rungs.{risen-by}
use Rattle.prepare.proofs.laying.top_place.Goals as goal
use Rattle.prepare.proofs.laying.top_place.Goals.{Start, After-min-count}

one : (c : Start) → OneTree c.args.tree.parents.now
one c = one-tree c.args.tree.few c.args.tree.judged

-- how many ancestors are written
count : (c : After-min-count) → c.min-count.result ≡ min c.args.high (depth c.args.tree.parents.now (entry_at c.args.tree.parents.now c.args.top.0))
count c =
    let t = one (goal.at.After-min-count c).Start in
    c.min-count.ensures ∙ ap (min c.args.high) (array-words t (depth c.args.tree.parents.now) _ c.args.tree.deep c.args.top.0 c.requires.2)

pub bounds-tree-top : goal.bounds-tree-top
bounds-tree-top c = omega (arith, c.requires.2, array-length (one (goal.at.bounds-tree-top c).Start) _ _ c.args.tree.deep)

pub returns-clause-place : goal.returns-clause-place
returns-clause-place c = ap (λ k. c.args.words + k) (count (goal.at.returns-clause-place c).After-min-count)

pub returns-clause-written : goal.returns-clause-written
returns-clause-written c = risen-by _ _ (count (goal.at.returns-clause-written c).After-min-count) c.rise.ensures
