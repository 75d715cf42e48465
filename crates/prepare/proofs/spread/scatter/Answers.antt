-- `spread::scatter` meets its contract: the loop has written the words of the positions that it has gone over. Assumes nothing.
use mathlib.Core.Path.{◌≡◌, ap, ◌∙◌}
use Prim.Native.Nat.{◌<◌}
use native.Mathlib.Omega.{arith}
use lib.ListN.{length, get_or}
use Rattle.std.proofs.lemmas.List.{length_push}
use Rattle.std.proofs.lemmas.Slice.Zip.{zip_turn, zip_end}
use Rattle.tree.specs.Forest.{position}
use Rattle.prepare.specs.Arrays.{OneTree, entry_at}
use Rattle.prepare.proofs.Preorder.{one-tree, order-many, located-of, array-words}
use Rattle.prepare.proofs.spread.Writes.{written-room, written-more, written_all}
use Rattle.prepare.proofs.spread.scatter.Goals as goal
use Rattle.prepare.proofs.spread.scatter.Goals.{Start, In-Some}

one : (c : Start) → OneTree c.args.tree.parents.now
one c = one-tree c.args.tree.few c.args.tree.judged

-- where the turn is
here : (c : In-Some) → length c.loop-v.yielded < length c.args.tree.parents.now
here c =
    let t = zip_turn c.args.tree.order.now c.args.values.now c.loop-v.yielded c.into_iter-v-iterator.result c.loop-v.v-iterator c.next.new.self c.next.result (cc) (cc) c.loop-v.yielded_by _ c.in-Some.is c.next.ensures.steps in
    omega (arith, t.1, c.requires.0)

entry : (c : In-Some) → c.in-Some.v.now ≡ entry_at c.args.tree.parents.now (length c.loop-v.yielded)
entry c =
    let t = zip_turn c.args.tree.order.now c.args.values.now c.loop-v.yielded c.into_iter-v-iterator.result c.loop-v.v-iterator c.next.new.self c.next.result (cc) (cc) c.loop-v.yielded_by _ c.in-Some.is c.next.ensures.steps in
    t.2 0 ∙ ap (λ l. get_or l (length c.loop-v.yielded) 0) c.args.tree.orders

word : (c : In-Some) → c.in-Some.x.now ≡ get_or c.args.values.now (length c.loop-v.yielded) 0
word c =
    let t = zip_turn c.args.tree.order.now c.args.values.now c.loop-v.yielded c.into_iter-v-iterator.result c.loop-v.v-iterator c.next.new.self c.next.result (cc) (cc) c.loop-v.yielded_by _ c.in-Some.is c.next.ensures.steps in
    t.3 0

pub bounds-cells-v : goal.bounds-cells-v
bounds-cells-v c =
    let r = (goal.at.bounds-cells-v c).In-Some in written-room (one (goal.at.bounds-cells-v c).Start) c.loop-v.invariant (here r) _ (entry r)

pub loop-v-preserved : goal.loop-v-preserved
loop-v-preserved c =
    let r = (goal.at.loop-v-preserved c).In-Some in
    rw length_push (written-more (one (goal.at.loop-v-preserved c).Start) c.loop-v.invariant (here r) _ (entry r) _ (word r))

pub returns : goal.returns
returns c f e =
    let t = one (goal.at.returns c).Start in
    let all = zip_end c.args.tree.order.now c.args.values.now c.loop-v.yielded c.into_iter-v-iterator.result c.loop-v.v-iterator c.next.new.self c.next.result (cc) (cc) c.loop-v.yielded_by c.in-None.is c.next.ensures.steps in
    written_all t c.loop-v.invariant (omega (arith, all, ap length c.args.tree.orders ∙ order-many t, c.requires.0)) f (λ v h. let there = located-of t v h in array-words t f _ e (position _ v) there.low ∙ ap f there.entry)
