-- `laying::rise` meets its contract: the nearest ancestors are written from the place down to `cell`. Assumes nothing.
use mathlib.Core.Path.{◌≡◌, sym, ap, ◌∙◌}
use mathlib.Core.Option.{some}
use Prim.Native.Nat.{◌+◌, ◌-◌}
use native.Mathlib.Omega.{arith}
use lib.ListN.{length, get_or}
use Rattle.prepare.specs.Arrays.{OneTree, entry_at}
use Rattle.prepare.proofs.Preorder.{one-tree, order-many, located-at, array-length, array-words}
use Rattle.prepare.proofs.laying.Rungs.{Climbed, climbed-none, climbed-more, risen-none, risen-more}
use Rattle.prepare.proofs.laying.rise.Goals as goal
use Rattle.prepare.proofs.laying.rise.Goals.{Start, In-loop-cell}

one : (c : Start) → OneTree c.args.tree.parents.now
one c = one-tree c.args.tree.few c.args.tree.judged

pub loop-cell-init : goal.loop-cell-init
loop-cell-init s =
    let t = one (goal.at.loop-cell-init s).Start in
    let z : s.args.place - s.args.place ≡ 0 = omega arith in
    record { low = omega arith; climbed = rw z (climbed-none t s.args.top.0 s.requires.1); risen = rw z (risen-none _ _ s.args.place s.args.cells.now) }

-- one climb further
next : (c : In-loop-cell) → Climbed c.args.tree.parents.now (entry_at c.args.tree.parents.now c.args.top.0) (c.args.place - c.loop-cell.cell + 1) (get_or c.args.tree.aboves.now c.loop-cell.at.0 0)
next c =
    let t = one (goal.at.In-loop-cell c).Start in
    let up = c.loop-cell.invariant.climbed in
    climbed-more t (array-words t _ _ c.args.tree.over c.loop-cell.at.0 up.inside) (located-at t c.args.top.0 c.requires.1).inside (omega (arith, c.loop-cell.invariant.low)) up

pub bounds-tree-at : goal.bounds-tree-at
bounds-tree-at c = omega (arith, c.loop-cell.invariant.climbed.inside, array-length (one (goal.at.bounds-tree-at c).Start) _ _ c.args.tree.over)

pub bounds-tree-at-in-loop-cell : goal.bounds-tree-at-in-loop-cell
bounds-tree-at-in-loop-cell c =
    omega (arith, (next (goal.at.bounds-tree-at-in-loop-cell c).In-loop-cell).inside, ap length c.args.tree.orders ∙ order-many (one (goal.at.bounds-tree-at-in-loop-cell c).Start))

pub loop-cell-preserved : goal.loop-cell-preserved
loop-cell-preserved c =
    let l = c.loop-cell in
    let n = next (goal.at.loop-cell-preserved c).In-loop-cell in
    let z : c.args.place - (l.cell - 1) ≡ c.args.place - l.cell + 1 = omega arith in
    let y : c.args.place - (c.args.place - l.cell + 1) ≡ l.cell - 1 = omega arith in
    let e = ap (λ x. get_or x (get_or c.args.tree.aboves.now l.at.0 0) 0) c.args.tree.orders in
    record {
      low = omega arith;
      climbed = rw z n;
      risen = rw (z, ← y) (risen-more _ _ c.args.place (c.args.place - l.cell) c.args.cells.now l.cells _ (omega arith) c.requires.3 (n.reached ∙ ap some (sym e)) l.invariant.risen);
    }
