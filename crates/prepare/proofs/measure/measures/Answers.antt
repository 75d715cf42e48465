-- `measure::measures` meets its contract: each position has the measures of what is below its entry from the end on. Assumes nothing.
use mathlib.Core.Path.{◌≡◌, ap, ◌∙◌}
use Prim.Native.Nat.{suc, ◌-◌, ◌<◌}
use native.Mathlib.Omega.{arith}
use lib.ListN.{length, get_or, replicate}
use Rattle.base.specs.Limits.{top_mark}
use Rattle.prepare.proofs.Preorder.{array-length}
use Rattle.prepare.proofs.measure.Turns.{MeasuredFrom, measured-none, measured-all, over-low, sum-small, rise-small, tall, short}
use Rattle.prepare.proofs.measure.measures.Goals as goal
use Rattle.prepare.proofs.measure.measures.Goals.{In-loop-at}

long : (c : In-loop-at) → (length c.loop-at.sizes ≡ length c.args.parents.now) × (length c.loop-at.heights ≡ length c.args.parents.now) × (length c.loop-at.longs ≡ length c.args.parents.now)
long c =
    let l = c.loop-at.auto in
    let r = c.requires.room in
    (l.sizes ∙ c.fill.ensures.len ∙ r.0, l.heights ∙ c.fill-2.ensures.len ∙ r.1, l.longs ∙ c.fill-3.ensures.len ∙ r.2)

-- the turn at a position, of which all behind is measured
record Turn (c : In-loop-at) : Type 0 where
  low : 0 < c.loop-at.at - 1
  high : c.loop-at.at - 1 < length c.args.parents.now
  from : MeasuredFrom c.args.parents.now (suc (c.loop-at.at - 1)) c.loop-at.sizes c.loop-at.heights c.loop-at.longs

turn : (c : In-loop-at) → Turn c
turn c =
    let z : c.loop-at.at ≡ suc (c.loop-at.at - 1) = omega arith in
    record { low = omega arith; high = omega arith; from = rw z at c.loop-at.invariant }

pub loop-at-init : goal.loop-at-init
loop-at-init c =
    let r = c.requires.room in
    measured-none c.requires.tree.0 (c.fill.ensures.after (λ y e. e) ∙ ap (λ n. replicate n 1) r.0) (c.fill-2.ensures.after (λ y e. e) ∙ ap (λ n. replicate n 1) r.1) (c.fill-3.ensures.after (λ y e. e) ∙ ap (λ n. replicate n top_mark) r.2)

-- the position above, and the sums of a turn
lower : (c : In-loop-at) → get_or c.args.aboves.now (c.loop-at.at - 1) 0 < c.loop-at.at - 1
lower c = let u = turn c in over-low c.requires.tree.0 (long c).0 (long c).1 (long c).2 c.requires.tree.1 (c.loop-at.at - 1) u.low u.high u.from

within : (c : In-loop-at) → get_or c.args.aboves.now (c.loop-at.at - 1) 0 < length c.args.parents.now
within c = omega (arith, lower c, (turn c).high)

pub bounds-aboves-at : goal.bounds-aboves-at
bounds-aboves-at c = omega (arith, array-length c.requires.tree.0 _ _ c.requires.tree.1)

pub bounds-sizes-over : goal.bounds-sizes-over
bounds-sizes-over c = let r = (goal.at.bounds-sizes-over c).In-loop-at in omega (arith, within r, long r)

pub bounds-sizes-over-in-loop-at : goal.bounds-sizes-over-in-loop-at
bounds-sizes-over-in-loop-at c = let r = (goal.at.bounds-sizes-over-in-loop-at c).In-loop-at in omega (arith, within r, long r)

pub overflow_add-sizes : goal.overflow_add-sizes
overflow_add-sizes c =
    let r = (goal.at.overflow_add-sizes c).In-loop-at in
    let u = turn r in
    omega (arith, sum-small c.requires.tree.0 (long r).0 (long r).1 (long r).2 c.requires.tree.1 (c.loop-at.at - 1) u.low u.high u.from)

pub overflow_add-rise : goal.overflow_add-rise
overflow_add-rise c =
    let r = (goal.at.overflow_add-rise c).In-loop-at in
    let u = turn r in
    omega (arith, rise-small c.requires.tree.0 (long r).0 (long r).1 (long r).2 c.requires.tree.1 (c.loop-at.at - 1) u.low u.high u.from)

pub bounds-heights-over : goal.bounds-heights-over
bounds-heights-over c = let r = (goal.at.bounds-heights-over c).In-loop-at in omega (arith, within r, long r)

pub bounds-heights-over-then-heights-over : goal.bounds-heights-over-then-heights-over
bounds-heights-over-then-heights-over c = let r = (goal.at.bounds-heights-over-then-heights-over c).In-loop-at in omega (arith, within r, long r)

pub bounds-longs-over : goal.bounds-longs-over
bounds-longs-over c = let r = (goal.at.bounds-longs-over c).In-loop-at in omega (arith, within r, long r)

pub loop-at-preserved-then-heights-over : goal.loop-at-preserved-then-heights-over
loop-at-preserved-then-heights-over c =
    let r = (goal.at.loop-at-preserved-then-heights-over c).In-loop-at in
    let u = turn r in
    tall c.requires.tree.0 (long r).0 (long r).1 (long r).2 c.requires.tree.1 (c.loop-at.at - 1) u.low u.high u.from c.if-heights-over.true

pub loop-at-preserved : goal.loop-at-preserved
loop-at-preserved c =
    let r = (goal.at.loop-at-preserved c).In-loop-at in
    let u = turn r in
    short c.requires.tree.0 (long r).0 (long r).1 (long r).2 c.requires.tree.1 (c.loop-at.at - 1) u.low u.high u.from c.if-heights-over.false

pub returns : goal.returns
returns c =
    let l = c.loop-at in
    let r = c.requires.room in
    let all = measured-all c.requires.tree.0 (l.auto.sizes ∙ c.fill.ensures.len ∙ r.0) (l.auto.heights ∙ c.fill-2.ensures.len ∙ r.1) (l.auto.longs ∙ c.fill-3.ensures.len ∙ r.2) l.at (omega arith) l.invariant in
    record { sizes = all.0; heights = all.1; longs = all.2 }
