-- `laying::paths` meets its contract: the loop has laid the paths of the positions before the next, and the words behind all ladders are then set to 0.
-- Assumes nothing.
use mathlib.Core.Path.{◌≡◌, sym, ap, ◌∙◌}
use mathlib.Core.Bool.{true, false}
use Prim.Native.Nat.{◌+◌, ◌≤◌, ◌<◌, min}
use native.Mathlib.Omega.{arith}
use lib.ListN.{length, get_or}
use Rattle.base.proofs.Puts.{wiped}
use Rattle.tree.specs.Parents.{depth}
use Rattle.tree.specs.Forest.{height, path_top}
use Rattle.climbs.proofs.Ladders.{rise}
use Rattle.prepare.specs.Arrays.{OneTree, entry_at}
use Rattle.prepare.proofs.Preorder.{one-tree, array-length, array-words}
use Rattle.prepare.proofs.laying.Rungs.{risen-by}
use Rattle.prepare.proofs.laying.Turns.{before-none, words-room, paths-end, places-end, rungs-end, paths-small, own_room, own-place, words_small, before-top, before-next}
use Rattle.prepare.proofs.laying.paths.Goals as goal
use Rattle.prepare.proofs.laying.paths.Goals.{Start, In-loop-i, After-loop-i, After-top_place-own, Then-path_top, Else-path_top, then-path_top, else-path_top}

one : (c : Start) → OneTree c.args.tree.parents.now
one c = one-tree c.args.tree.few c.args.tree.judged

many : (c : Start) → length c.args.heights.now ≡ length c.args.tree.parents.now
many c = array-length (one c) _ _ c.requires.paths.0

-- a turn: its position, and the height there
here : (c : In-loop-i) → c.loop-i.i < length c.args.tree.parents.now
here c = omega (arith, many (goal.at.In-loop-i c).Start)

long : (c : In-loop-i) → length c.loop-i.places ≡ length c.args.tree.parents.now
long c = c.loop-i.auto.places ∙ c.requires.room.0

high : (c : In-loop-i) → get_or c.args.heights.now c.loop-i.i 0 ≡ height c.args.tree.parents.now (entry_at c.args.tree.parents.now c.loop-i.i)
high c = array-words (one (goal.at.In-loop-i c).Start) (height c.args.tree.parents.now) _ c.requires.paths.0 c.loop-i.i (here c)

pub loop-i-init : goal.loop-i-init
loop-i-init c = before-none _ _ (one (goal.at.loop-i-init c).Start) c.requires.room.1

pub overflow_cast-at : goal.overflow_cast-at
overflow_cast-at c = omega (arith, here (goal.at.overflow_cast-at c).In-loop-i, c.args.tree.few)

pub path_top-requires : goal.path_top-requires
path_top-requires c = (c.requires.paths.1, here (goal.at.path_top-requires c).In-loop-i)

-- where a long path starts, and where one goes on
top : (p : Then-path_top) → path_top p.args.tree.parents.now (entry_at p.args.tree.parents.now p.loop-i.i) ≡ true
top p = sym p.path_top.ensures ∙ p.if-path_top.true

goes : (p : Else-path_top) → path_top p.args.tree.parents.now (entry_at p.args.tree.parents.now p.loop-i.i) ≡ false
goes p = sym p.path_top.ensures ∙ p.if-path_top.false

-- how far the ladder reaches up
reach : (c : In-loop-i) → min (get_or c.args.heights.now c.loop-i.i 0) (depth c.args.tree.parents.now (entry_at c.args.tree.parents.now c.loop-i.i)) ≡ rise c.args.tree.parents.now (entry_at c.args.tree.parents.now c.loop-i.i)
reach c = ap (λ k. min k (depth c.args.tree.parents.now (entry_at c.args.tree.parents.now c.loop-i.i))) (high c)

pub top_place-own-requires : goal.top_place-own-requires
top_place-own-requires c =
    let r = (goal.at.top_place-own-requires c).In-loop-i in
    let t = one (goal.at.top_place-own-requires c).Start in
    let v = c.loop-i.invariant in
    (high r, omega (arith, reach r, own-place t v (long r) (here r) (top (goal.at.top_place-own-requires c).Then-path_top), own_room t v (long r) (here r)), here r, omega (arith, v.rungs.size, c.args.tree.few))

-- the place of a path's top
own : (p : After-top_place-own) → p.top_place-own.result ≡ p.loop-i.words + rise p.args.tree.parents.now (entry_at p.args.tree.parents.now p.loop-i.i)
own p = p.top_place-own.ensures.place ∙ ap (λ k. p.loop-i.words + k) (reach (goal.at.After-top_place-own p).In-loop-i)

pub settle-requires : goal.settle-requires
settle-requires c =
    let r = (goal.at.settle-requires c).In-loop-i in
    let t = one (goal.at.settle-requires c).Start in
    let v = c.loop-i.invariant in
    (here r, long r, omega (arith, own (goal.at.settle-requires c).After-top_place-own, own-place t v (long r) (here r) (top (goal.at.settle-requires c).Then-path_top), own_room t v (long r) (here r), c.top_place-own.auto.cells))

pub overflow_add-words : goal.overflow_add-words
overflow_add-words c =
    let r = (goal.at.overflow_add-words c).In-loop-i in
    let t = one (goal.at.overflow_add-words c).Start in
    omega (arith, own (goal.at.overflow_add-words c).After-top_place-own, high r, words_small t c.loop-i.invariant (long r) (here r) (top (goal.at.overflow_add-words c).Then-path_top))

pub overflow_add-paths : goal.overflow_add-paths
overflow_add-paths c =
    let r = (goal.at.overflow_add-paths c).In-loop-i in
    omega (arith, here r, paths-small (one (goal.at.overflow_add-paths c).Start) c.loop-i.invariant (long r) (here r), c.args.tree.few)

pub next_place-place-requires : goal.next_place-place-requires
next_place-place-requires c =
    let r = (goal.at.next_place-place-requires c).In-loop-i in
    (goes (goal.at.next_place-place-requires c).Else-path_top, c.loop-i.invariant.placed, here r, long r)

pub settle-requires-else-path_top : goal.settle-requires-else-path_top
settle-requires-else-path_top c =
    let r = (goal.at.settle-requires-else-path_top c).In-loop-i in
    (here r, long r, omega (arith, c.next_place-place.ensures, own_room (one (goal.at.settle-requires-else-path_top c).Start) c.loop-i.invariant (long r) (here r)))

pub loop-i-preserved : goal.loop-i-preserved
loop-i-preserved c =
    let r = (goal.at.loop-i-preserved c).In-loop-i in
    let t = one (goal.at.loop-i-preserved c).Start in
    let v = c.loop-i.invariant in
    elim c.if-path_top.branch [
      | then-path_top w ↦
          let e = w.top_place-own.ensures in
          rw (w.paths-is, w.words-is, w.places-is, w.cells-is)
          (before-top t v (long r) (here r) (sym c.path_top.ensures ∙ w.if-path_top.true) _ _ _ _ _ (e.place ∙ ap (λ k. c.loop-i.words + k) (reach r)) (high r) (risen-by _ _ (reach r) e.written) w.settle.ensures.0 w.settle.ensures.1)
      | else-path_top w ↦
          rw (w.paths-is, w.words-is, w.places-is, w.cells-is)
          (before-next t v (long r) (here r) _ _ _ (sym c.path_top.ensures ∙ w.if-path_top.false) w.next_place-place.ensures w.settle-else-path_top.ensures.0 w.settle-else-path_top.ensures.1)
    ]

-- the words of all ladders fit the section
fits : (c : After-loop-i) → c.loop-i.words ≤ length c.loop-i.cells
fits c =
    let s = (goal.at.After-loop-i c).Start in
    words-room (one s) c.loop-i.invariant (c.loop-i.auto.places ∙ c.requires.room.0) (omega (arith, many s))

pub slice_bounds-fill-count : goal.slice_bounds-fill-count
slice_bounds-fill-count c = omega (arith, fits (goal.at.slice_bounds-fill-count c).After-loop-i)

pub slice_bounds-fill-start : goal.slice_bounds-fill-start
slice_bounds-fill-start c = omega (arith, fits (goal.at.slice_bounds-fill-start c).After-loop-i)

pub returns : goal.returns
returns c =
    let s = (goal.at.returns c).Start in
    let t = one s in
    let l = c.loop-i in
    let long = l.auto.places ∙ c.requires.room.0 in
    let all : l.i ≡ length c.args.tree.parents.now = omega (arith, many s) in
    record {
      paths = paths-end t l.invariant long all;
      places = places-end t l.invariant long all;
      laid = rungs-end t l.invariant long all _ (wiped l.cells _ l.words (fits (goal.at.returns c).After-loop-i) (c.fill.ensures.after (λ y e. e)));
    }
