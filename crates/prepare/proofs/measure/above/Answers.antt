-- `measure::above` meets its contract: ABOVE is there for the positions before `at`, and the climb from the last of them by depth. Assumes nothing.
use mathlib.Core.Path.{◌≡◌}
use Prim.Native.Nat.{◌<◌}
use native.Mathlib.Omega.{arith}
use lib.ListN.{length, get_or, length-set}
use Rattle.prepare.proofs.Preorder.{entries-some, array-length}
use Rattle.prepare.proofs.measure.RootPaths.{above-start, depth-some, depth-few, above-next, above-all}
use Rattle.prepare.proofs.measure.above.Goals as goal
use Rattle.prepare.proofs.measure.above.Goals.{In-loop-at}

long : (c : In-loop-at) → (length c.loop-at.aboves ≡ length c.args.parents.now) × (length c.loop-at.climb ≡ length c.args.parents.now)
long c = (omega (arith, c.loop-at.auto.aboves, length-set c.args.aboves.now 0 4294967295, c.requires.2), omega (arith, c.loop-at.auto.climb, length-set c.args.climb.now 0 0, c.requires.3))

-- the depth that a turn reads
deep : (c : In-loop-at) → (0 < get_or c.args.depths.now c.loop-at.at 0) × (get_or c.args.depths.now c.loop-at.at 0 < length c.args.parents.now)
deep c =
    let l = c.loop-at in
    (depth-some c.requires.0 l.aboves l.climb (long c).0 (long c).1 c.requires.1 l.invariant (omega arith), depth-few c.requires.0 l.aboves l.climb (long c).0 (long c).1 c.requires.1 l.invariant (omega arith))

pub loop-at-init : goal.loop-at-init
loop-at-init c = above-start c.requires.0 _ _ c.requires.2 c.requires.3

pub bounds-depths-at : goal.bounds-depths-at
bounds-depths-at c = omega (arith, array-length c.requires.0 _ _ c.requires.1)

pub overflow_sub-aboves : goal.overflow_sub-aboves
overflow_sub-aboves c = omega (arith, deep (goal.at.overflow_sub-aboves c).In-loop-at)

pub bounds-climb-deep : goal.bounds-climb-deep
bounds-climb-deep c = omega (arith, deep (goal.at.bounds-climb-deep c).In-loop-at, long (goal.at.bounds-climb-deep c).In-loop-at)

pub bounds-climb-deep-in-loop-at : goal.bounds-climb-deep-in-loop-at
bounds-climb-deep-in-loop-at c = omega (arith, deep (goal.at.bounds-climb-deep-in-loop-at c).In-loop-at, long (goal.at.bounds-climb-deep-in-loop-at c).In-loop-at)

pub loop-at-preserved : goal.loop-at-preserved
loop-at-preserved c =
    let l = c.loop-at in
    let r = (goal.at.loop-at-preserved c).In-loop-at in
    above-next c.requires.0 l.aboves l.climb (long r).0 (long r).1 c.requires.1 l.invariant (omega arith)

pub returns : goal.returns
returns c =
    let l = c.loop-at in
    above-all c.requires.0 l.aboves l.climb (omega (arith, l.auto.aboves, length-set c.args.aboves.now 0 4294967295, c.requires.2)) (omega (arith, l.auto.climb, length-set c.args.climb.now 0 0, c.requires.3)) (omega (arith, entries-some c.requires.0)) l.invariant
