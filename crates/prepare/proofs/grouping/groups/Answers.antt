-- `grouping::groups` meets its contract: the words of the groups among the positions before the next, which end there or before, are laid end to end,
-- and the words behind the last are then set to 0. Assumes nothing.
use mathlib.Core.Path.{◌≡◌}
use Prim.Native.Nat.{◌+◌, ◌≤◌, ◌<◌}
use native.Mathlib.Omega.{arith}
use lib.ListN.{length, get_or}
use Rattle.tree.specs.Forest.{size}
use Rattle.prepare.specs.Arrays.{OneTree, entry_at}
use Rattle.prepare.proofs.Preorder.{one-tree, array-length, array-words}
use Rattle.prepare.proofs.grouping.Turns.{groups_none, groups-long, groups-end, groups-same, groups-more, group-depths, group-room, group-some}
use Rattle.prepare.proofs.grouping.groups.Goals as goal
use Rattle.prepare.proofs.grouping.groups.Goals.{Start, In-loop-next}

one : (c : Start) → OneTree c.args.tree.parents.now
one c = one-tree c.args.tree.few c.args.tree.judged

many : (c : Start) → length c.args.sizes.now ≡ length c.args.tree.parents.now
many c = array-length (one c) _ _ c.requires.0

-- a turn
here : (r : In-loop-next) → r.loop-next.next.0 < length r.args.tree.parents.now
here r = omega (arith, many (goal.at.In-loop-next r).Start)

word : (r : In-loop-next) → get_or r.args.sizes.now r.loop-next.next.0 0 ≡ size r.args.tree.parents.now (entry_at r.args.tree.parents.now r.loop-next.next.0)
word r = array-words (one (goal.at.In-loop-next r).Start) _ _ r.requires.0 r.loop-next.next.0 (here r)

-- the group ends within the order, past its root
bounds : (r : In-loop-next) → (r.loop-next.next.0 + get_or r.args.sizes.now r.loop-next.next.0 0 ≤ length r.args.sizes.now) × (0 < get_or r.args.sizes.now r.loop-next.next.0 0)
bounds r =
    let t = one (goal.at.In-loop-next r).Start in
    let g = r.loop-next.invariant.groups in
    (omega (arith, group-room t g (here r) _ (word r), many (goal.at.In-loop-next r).Start), group-some t g (here r) _ (word r))

pub loop-next-init : goal.loop-next-init
loop-next-init c =
    record { within = omega arith; turn = record { few = c.args.tree.few; sizes = many (goal.at.loop-next-init c).Start; room = c.requires.1; used = omega arith }; groups = groups_none c.requires.1 }

pub loop-next-preserved-then-entries-le-GROUP_LIMIT : goal.loop-next-preserved-then-entries-le-GROUP_LIMIT
loop-next-preserved-then-entries-le-GROUP_LIMIT c =
    let n = c.number in
    let p = c.parent_word in
    let r = (goal.at.loop-next-preserved-then-entries-le-GROUP_LIMIT c).In-loop-next in
    let t = one (goal.at.loop-next-preserved-then-entries-le-GROUP_LIMIT c).Start in
    let l = c.loop-next.invariant in
    let few = c.if-entries-le-GROUP_LIMIT.true in
    let shape = n.ensures.is _ _ _ (group-depths t l.groups (here r) _ c.args.tree.deep) (word r) few in
    let g = groups-more t l.groups (here r) _ (word r) few n.result p.result shape p.ensures in
    record {
      within = (bounds r).0;
      turn = record { few = l.turn.few; sizes = l.turn.sizes; room = groups-long t g; used = omega (arith, l.turn.used, (bounds r).1) };
      groups = g;
    }

pub loop-next-preserved : goal.loop-next-preserved
loop-next-preserved c =
    let r = (goal.at.loop-next-preserved c).In-loop-next in
    let l = c.loop-next.invariant in
    record {
      within = omega arith;
      turn = record { few = l.turn.few; sizes = l.turn.sizes; room = l.turn.room; used = omega (arith, l.turn.used) };
      groups = groups-same (one (goal.at.loop-next-preserved c).Start) l.groups (here r) _ (word r) c.if-entries-le-GROUP_LIMIT.false;
    }

pub returns : goal.returns
returns c =
    groups-end (one (goal.at.returns c).Start) c.loop-next.invariant.groups (omega (arith, many (goal.at.returns c).Start)) _ (c.fill.ensures.after (λ y e. e))
