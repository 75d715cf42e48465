-- `jumps::jump_nodes` meets its contract: the jump entries among the positions gone over stand in the first cells, in preorder. Assumes nothing.
use mathlib.Core.Path.{◌≡◌, ap, ◌∙◌}
use Prim.Native.Nat.{◌<◌}
use native.Mathlib.Omega.{arith}
use lib.ListN.{length, get_or}
use Rattle.base.specs.Limits.{group_limit}
use Rattle.base.proofs.Lists.{below_at, each-length}
use Rattle.table.specs.Groups.{kind}
use Rattle.prepare.specs.Arrays.{OneTree, entry_at}
use Rattle.prepare.proofs.Preorder.{one-tree, order-many, located-at}
use Rattle.prepare.proofs.jumps.Nodes.{jumps-none, node-room, jumps-macro, jumps-micro}
use Rattle.prepare.proofs.jumps.jump_nodes.Goals as goal
use Rattle.prepare.proofs.jumps.jump_nodes.Goals.{Start, In-loop-v, then-k-lt-MICRO_MARK, else-k-lt-MICRO_MARK}

one : (c : Start) → OneTree c.args.tree.parents.now
one c = one-tree c.args.tree.few c.args.tree.judged

many : (c : Start) → length c.args.tree.order.now ≡ length c.args.tree.parents.now
many c = ap length c.args.tree.orders ∙ order-many (one c)

here : (r : In-loop-v) → r.loop-v.v-index < length r.args.tree.parents.now
here r = omega (arith, many (goal.at.In-loop-v r).Start)

entry : (r : In-loop-v) → get_or r.args.tree.order.now r.loop-v.v-index 0 ≡ entry_at r.args.tree.parents.now r.loop-v.v-index
entry r = ap (λ l. get_or l r.loop-v.v-index 0) r.args.tree.orders

inside : (r : In-loop-v) → get_or r.args.tree.order.now r.loop-v.v-index 0 < length r.args.tree.parents.now
inside r = omega (arith, entry r, (located-at (one (goal.at.In-loop-v r).Start) r.loop-v.v-index (here r)).inside)

word : (r : In-loop-v) → get_or r.args.kinds.now (get_or r.args.tree.order.now r.loop-v.v-index 0) 0 ≡ kind group_limit r.args.tree.parents.now (entry_at r.args.tree.parents.now r.loop-v.v-index)
word r =
    ap (λ l. get_or l (get_or r.args.tree.order.now r.loop-v.v-index 0) 0) r.requires.0 ∙ below_at _ (kind group_limit r.args.tree.parents.now) 0 _ (inside r) ∙ ap (kind group_limit r.args.tree.parents.now) (entry r)

pub loop-v-init : goal.loop-v-init
loop-v-init s = jumps-none s.args.tree.parents.now s.args.cells.now

pub bounds-kinds-v : goal.bounds-kinds-v
bounds-kinds-v c =
    omega (arith, inside (goal.at.bounds-kinds-v c).In-loop-v, ap length c.requires.0 ∙ each-length (length c.args.tree.parents.now) 0 (kind group_limit c.args.tree.parents.now))

pub bounds-cells-k : goal.bounds-cells-k
bounds-cells-k c =
    let r = (goal.at.bounds-cells-k c).In-loop-v in
    omega (arith, node-room (one (goal.at.In-loop-v r).Start) c.loop-v.v-index (here r) _ (word r) c.if-k-lt-MICRO_MARK.true, c.loop-v.auto.cells, c.requires.1)

pub loop-v-preserved : goal.loop-v-preserved
loop-v-preserved c =
    let l = c.loop-v in
    let r = (goal.at.loop-v-preserved c).In-loop-v in
    elim c.if-k-lt-MICRO_MARK.branch [
      | then-k-lt-MICRO_MARK w ↦ rw w.cells-is (jumps-macro (one (goal.at.In-loop-v r).Start) l.v-index (here r) _ (word r) l.cells l.invariant _ (entry r) (l.auto.cells ∙ c.requires.1) w.if-k-lt-MICRO_MARK.true)
      | else-k-lt-MICRO_MARK w ↦ rw w.cells-is (jumps-micro (one (goal.at.In-loop-v r).Start) l.v-index (here r) _ (word r) l.cells l.invariant w.if-k-lt-MICRO_MARK.false)
    ]
