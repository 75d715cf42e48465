-- `grouping::parent_word` meets its contract: the entry above stands at the position that ABOVE names, and the first has none. Assumes nothing.
use mathlib.Core.Path.{sym, ap, ◌∙◌}
use mathlib.Core.Option
use Prim.Native.Nat.{ℕ}
use native.Mathlib.Omega.{arith}
use lib.ListN.{length, get_or}
use Rattle.base.specs.Limits.{top_mark}
use Rattle.prepare.specs.Arrays.{OneTree}
use Rattle.prepare.proofs.Preorder.{Over, one-tree, order-many, no-parent, over-at, array-length, array-words}
use Rattle.prepare.proofs.grouping.parent_word.Goals as goal
use Rattle.prepare.proofs.grouping.parent_word.Goals.{Start, Else-at-eq0}

one : (c : Start) → OneTree c.args.tree.parents.now
one c = one-tree c.args.tree.few c.args.tree.judged

over : (c : Else-at-eq0) → ((p : ℕ) × Over c.args.tree.parents.now c.args.at.0 (get_or c.args.tree.aboves.now c.args.at.0 0) p)
over c =
    let t = one (goal.at.Else-at-eq0 c).Start in
    over-at t c.args.at.0 c.requires (array-words t _ _ c.args.tree.over c.args.at.0 c.requires) (omega arith)

pub returns-then-at-eq0 : goal.returns-then-at-eq0
returns-then-at-eq0 c = rw (c.if-at-eq0.true, no-parent (one (goal.at.returns-then-at-eq0 c).Start))

pub bounds-tree-at : goal.bounds-tree-at
bounds-tree-at c = omega (arith, c.requires, array-length (one (goal.at.bounds-tree-at c).Start) _ _ c.args.tree.over)

pub bounds-tree-over : goal.bounds-tree-over
bounds-tree-over c =
    omega (arith, (over (goal.at.bounds-tree-over c).Else-at-eq0).1.there.low, ap length c.args.tree.orders ∙ order-many (one (goal.at.bounds-tree-over c).Start))

pub returns : goal.returns
returns c =
    let (p, o) = over (goal.at.returns c).Else-at-eq0 in
    ap (λ l. get_or l (get_or c.args.tree.aboves.now c.args.at.0 0) 0) c.args.tree.orders ∙ o.there.entry ∙ sym (ap (λ q. Option.get_or q top_mark) o.parent_is)
