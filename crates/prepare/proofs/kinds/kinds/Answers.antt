-- `kinds::kinds` meets its contract: the loop has numbered the entries at the positions gone over, counted their groups, of which the last ends at `end`, and the jump
-- entries before the last position of a size over 7. Assumes nothing.
use mathlib.Core.Path.{◌≡◌, refl, ap, ◌∙◌}
use Prim.Native.Nat.{ℕ, ◌+◌, ◌≤◌, ◌<◌}
use native.Mathlib.Omega.{arith}
use lib.ListN.{length, get_or}
use Rattle.base.specs.Limits.{group_limit}
use Rattle.tree.specs.Forest.{size}
use Rattle.prepare.specs.Arrays.{OneTree, entry_at}
use Rattle.prepare.proofs.Preorder.{one-tree, order-many, entries-some, array-length, array-words}
use Rattle.prepare.proofs.kinds.Turns.{jumps_within, OpenGroup, kinds-none, group-opens, group-goes-on, open-some, open-few, kinds-micro, jumps-past, jumps-within, kinds-macro, groups-all, jumps-zero, jumps-end, kinds-end, size_small, word-micro, word-macro}
use Rattle.prepare.proofs.spread.Writes.{written-room}
use Rattle.prepare.proofs.kinds.kinds.Goals as goal
use Rattle.prepare.proofs.kinds.kinds.Goals.{Start, In-loop-i, Joined-end-at, then-entries-le-GROUP_LIMIT, else-entries-le-GROUP_LIMIT, then-end-at, else-end-at, then-last-sizes, else-last-sizes}

one : (c : Start) → OneTree c.args.tree.parents.now
one c = one-tree c.args.tree.few c.args.tree.judged

all : (s : Start) → (length s.args.sizes.now ≡ length s.args.tree.parents.now) × (length s.args.tree.order.now ≡ length s.args.tree.parents.now)
all s = (array-length (one s) _ _ s.requires.0, ap length s.args.tree.orders ∙ order-many (one s))

word : (s : Start) (i : ℕ) → i < length s.args.tree.parents.now → get_or s.args.sizes.now i 0 ≡ size s.args.tree.parents.now (entry_at s.args.tree.parents.now i)
word s = array-words (one s) _ _ s.requires.0

pub loop-i-init : goal.loop-i-init
loop-i-init s =
    let (n, m) = all (goal.at.loop-i-init s).Start in
    (record { few = s.args.tree.few; sizes = n; orders = m; counted = omega arith; jumped = omega arith }, kinds-none _ group_limit s.args.cells.now s.requires.1)

-- a turn: its position, its entry and what it is written to
here : (r : In-loop-i) → r.loop-i.i < length r.args.tree.parents.now
here r = omega (arith, r.loop-i.invariant.0.orders)

entry : (r : In-loop-i) → get_or r.args.tree.order.now r.loop-i.i 0 ≡ entry_at r.args.tree.parents.now r.loop-i.i
entry r = ap (λ l. get_or l r.loop-i.i 0) r.args.tree.orders

room : (r : In-loop-i) → get_or r.args.tree.order.now r.loop-i.i 0 < length r.loop-i.cells
room r = written-room (one (goal.at.In-loop-i r).Start) r.loop-i.invariant.1.kinds (here r) _ (entry r)

-- the group of a position of size 7 or less
grouped : (c : Joined-end-at) → OpenGroup c.args.tree.parents.now group_limit c.loop-i.i c.if-end-at.groups c.if-end-at.root.0 c.if-end-at.end.0
grouped c =
    let t = one (goal.at.Joined-end-at c).Start in
    let k = c.loop-i.invariant.1 in
    let h = here (goal.at.Joined-end-at c).In-loop-i in
    let e = word (goal.at.Joined-end-at c).Start c.loop-i.i h in
    elim c.if-end-at.branch [
      | then-end-at w ↦ rw (w.groups-is, w.root-is, w.end-is) (group-opens t k h (word-micro t c.loop-i.i h _ e c.if-entries-le-GROUP_LIMIT.true) w.if-end-at.true _ e)
      | else-end-at w ↦ rw (w.groups-is, w.root-is, w.end-is) (group-goes-on t k h w.if-end-at.false)
    ]

-- its numbers
fits : (c : Joined-end-at) → (1 ≤ c.if-end-at.groups) × (c.if-end-at.groups ≤ c.loop-i.i + 1) × (c.if-end-at.root.0 ≤ c.loop-i.i)
fits c =
    let t = one (goal.at.Joined-end-at c).Start in
    let k = c.loop-i.invariant.1 in
    let h = here (goal.at.Joined-end-at c).In-loop-i in
    (open-some t k h (grouped c), open-few t k h (grouped c), (grouped c).low)

pub overflow_add-last : goal.overflow_add-last
overflow_add-last c =
    let h : c.loop-i.last.0 < length c.args.tree.parents.now = omega (arith, c.loop-i.invariant.1.last-in, here (goal.at.overflow_add-last c).In-loop-i) in
    omega (arith, size_small (one (goal.at.overflow_add-last c).Start) c.loop-i.last.0 h _ (word (goal.at.overflow_add-last c).Start _ h))

pub loop-i-preserved : goal.loop-i-preserved
loop-i-preserved c =
    let t = one (goal.at.loop-i-preserved c).Start in
    let l = c.loop-i in
    let n = l.invariant.0 in
    let k = l.invariant.1 in
    let r = (goal.at.loop-i-preserved c).In-loop-i in
    let h = here r in
    let z = word (goal.at.loop-i-preserved c).Start in
    elim c.if-entries-le-GROUP_LIMIT.branch [
      | then-entries-le-GROUP_LIMIT w ↦
          let o : OpenGroup c.args.tree.parents.now group_limit l.i w.if-end-at.groups w.if-end-at.root.0 w.if-end-at.end.0
          = elim w.if-end-at.branch [
            | then-end-at v ↦ rw (v.groups-is, v.root-is, v.end-is) (group-opens t k h (word-micro t l.i h _ (z l.i h) w.if-entries-le-GROUP_LIMIT.true) v.if-end-at.true _ (z l.i h))
            | else-end-at v ↦ rw (v.groups-is, v.root-is, v.end-is) (group-goes-on t k h v.if-end-at.false)
          ] in
          rw (w.cells-is, w.groups-is, w.jumps-is, w.root-is, w.end-is, w.last-is) (record { few = n.few; sizes = n.sizes; orders = n.orders; counted = open-few t k h o; jumped = omega (arith, n.jumped) }, kinds-micro t k h o _ _ (entry r) refl)
      | else-entries-le-GROUP_LIMIT w ↦
          let m = word-macro t l.i h _ (z l.i h) w.if-entries-le-GROUP_LIMIT.false in
          let y = z l.last.0 (omega (arith, k.last-in)) in
          let j : w.if-last-sizes.jumps ≡ length (jumps_within group_limit c.args.tree.parents.now l.i)
          = elim w.if-last-sizes.branch [
            | then-last-sizes v ↦ v.jumps-is ∙ jumps-past t k h m (omega (arith, y, v.if-last-sizes.true))
            | else-last-sizes v ↦ v.jumps-is ∙ jumps-within t k h m (omega (arith, y, v.if-last-sizes.false))
          ] in
          let b : w.if-last-sizes.jumps ≤ l.i + 1 = elim w.if-last-sizes.branch [ then-last-sizes v ↦ omega (arith, v.jumps-is, n.jumped) | else-last-sizes v ↦ omega (arith, v.jumps-is, n.jumped) ] in
          rw (w.cells-is, w.groups-is, w.jumps-is, w.root-is, w.end-is, w.last-is) (record { few = n.few; sizes = n.sizes; orders = n.orders; counted = omega (arith, n.counted); jumped = b }, kinds-macro t k h m _ _ (entry r) j)
    ]

done : (s : Start) → length s.args.tree.order.now ≡ length s.args.tree.parents.now
done s = (all s).1

pub returns-then-sizes-gt-GROUP_LIMIT : goal.returns-then-sizes-gt-GROUP_LIMIT
returns-then-sizes-gt-GROUP_LIMIT c =
    let s = (goal.at.returns-then-sizes-gt-GROUP_LIMIT c).Start in
    let t = one s in
    let k = c.loop-i.invariant.1 in
    let some = entries-some t in
    let e : c.loop-i.i ≡ length c.args.tree.parents.now = omega (arith, done s) in
    record { counts = (groups-all t k e, jumps-end t k e (word-macro t 0 some _ (word s 0 some) c.if-sizes-gt-GROUP_LIMIT.true)); laid = kinds-end t k e }

pub returns-else-sizes-gt-GROUP_LIMIT : goal.returns-else-sizes-gt-GROUP_LIMIT
returns-else-sizes-gt-GROUP_LIMIT c =
    let s = (goal.at.returns-else-sizes-gt-GROUP_LIMIT c).Start in
    let t = one s in
    let k = c.loop-i.invariant.1 in
    let some = entries-some t in
    let e : c.loop-i.i ≡ length c.args.tree.parents.now = omega (arith, done s) in
    record { counts = (groups-all t k e, jumps-zero t k e (word-micro t 0 some _ (word s 0 some) c.if-sizes-gt-GROUP_LIMIT.false)); laid = kinds-end t k e }

pub overflow_sub-cells : goal.overflow_sub-cells
overflow_sub-cells c = omega (arith, fits (goal.at.overflow_sub-cells c).Joined-end-at)

pub bounds-cells-v : goal.bounds-cells-v
bounds-cells-v c = room (goal.at.bounds-cells-v c).In-loop-i

pub bounds-cells-v-else-entries-le-GROUP_LIMIT : goal.bounds-cells-v-else-entries-le-GROUP_LIMIT
bounds-cells-v-else-entries-le-GROUP_LIMIT c = room (goal.at.bounds-cells-v-else-entries-le-GROUP_LIMIT c).In-loop-i

pub bounds-sizes-0 : goal.bounds-sizes-0
bounds-sizes-0 c = omega (arith, entries-some (one (goal.at.bounds-sizes-0 c).Start), (all (goal.at.bounds-sizes-0 c).Start).0)
