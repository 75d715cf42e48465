-- `spread::positions` meets its contract: the loop has written the positions before `at`. Assumes nothing.
use mathlib.Core.Path.{◌≡◌, refl, ap, ◌∙◌}
use Prim.Native.Nat.{◌<◌}
use native.Mathlib.Omega.{arith}
use lib.ListN.{length, get_or}
use Rattle.tree.specs.Forest.{position}
use Rattle.prepare.specs.Arrays.{OneTree, entry_at}
use Rattle.prepare.proofs.Preorder.{one-tree, order-many}
use Rattle.prepare.proofs.spread.Writes.{written-room, written-more, written_all}
use Rattle.prepare.proofs.spread.positions.Goals as goal
use Rattle.prepare.proofs.spread.positions.Goals.{Start, In-loop-at}

one : (c : Start) → OneTree c.args.tree.parents.now
one c = one-tree c.args.tree.few c.args.tree.judged

many : (c : Start) → length c.args.tree.order.now ≡ length c.args.tree.parents.now
many c = ap length c.args.tree.orders ∙ order-many (one c)

here : (c : In-loop-at) → c.loop-at.at < length c.args.tree.parents.now
here c = omega (arith, many (goal.at.In-loop-at c).Start)

entry : (c : In-loop-at) → get_or c.args.tree.order.now c.loop-at.at 0 ≡ entry_at c.args.tree.parents.now c.loop-at.at
entry c = ap (λ l. get_or l c.loop-at.at 0) c.args.tree.orders

pub overflow_cast-cells : goal.overflow_cast-cells
overflow_cast-cells c = omega (arith, here (goal.at.overflow_cast-cells c).In-loop-at, c.args.tree.few)

pub bounds-cells-v : goal.bounds-cells-v
bounds-cells-v c =
    let r = (goal.at.bounds-cells-v c).In-loop-at in written-room (one (goal.at.bounds-cells-v c).Start) c.loop-at.invariant (here r) _ (entry r)

pub loop-at-preserved : goal.loop-at-preserved
loop-at-preserved c =
    let r = (goal.at.loop-at-preserved c).In-loop-at in
    written-more (one (goal.at.loop-at-preserved c).Start) c.loop-at.invariant (here r) _ (entry r) _ refl

pub returns : goal.returns
returns c =
    written_all (one (goal.at.returns c).Start) c.loop-at.invariant (omega (arith, many (goal.at.returns c).Start)) (position _) (λ v h. refl)
