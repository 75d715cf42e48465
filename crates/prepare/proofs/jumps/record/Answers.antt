-- `jumps::record` meets its contract: the words before e are the record's, and the next ancestor is s climbs above w. Assumes nothing.
use mathlib.Core.Path.{refl}
use Prim.Native.Nat.{◌≤◌}
use native.Mathlib.Omega.{arith}
use Rattle.tree.specs.Parents.{depth}
use Rattle.prepare.proofs.jumps.Ancestors.{depth_small, record-none, record-end, record-further, record-whole, place_in, place-low, place-high, record-more}
use Rattle.prepare.proofs.jumps.record.Goals as goal
use Rattle.prepare.proofs.jumps.record.Goals.{Else-end-e}

-- a turn that goes on, once it has read the entry's place
abbrev Read : Type 0
Read = Else-end-e

far : (c : Read) → c.loop-e.t ≤ depth c.args.parents.now c.args.v.0
far c =
    record-further c.requires.0 _ c.requires.3 c.loop-e.invariant _ c.requires.4 _ c.ancestors_end-end.ensures (omega (arith, c.if-end-e.false))

pub loop-e-preserved : goal.loop-e-preserved
loop-e-preserved c =
    record-more c.requires.0 _ c.requires.3 c.loop-e.invariant (far (goal.at.loop-e-preserved c).Else-end-e) _ c.requires.1 _ c.requires.2 (omega arith)

pub loop-e-init : goal.loop-e-init
loop-e-init c = record-none c.requires.0 _ c.requires.3 _ _ c.requires.4 refl

pub returns-then-end-e : goal.returns-then-end-e
returns-then-end-e c =
    record-whole c.requires.0 _ c.requires.3 c.loop-e.invariant _ c.requires.4 _ c.ancestors_end-end.ensures (omega (arith, c.if-end-e.true))

pub bounds-places-w : goal.bounds-places-w
bounds-places-w c =
    place_in c.requires.0 _ c.requires.3 c.loop-e.invariant (far (goal.at.bounds-places-w c).Else-end-e) _ c.requires.1

pub overflow_sub-w : goal.overflow_sub-w
overflow_sub-w c =
    omega (arith, place-low c.requires.0 _ c.requires.3 c.loop-e.invariant (far (goal.at.overflow_sub-w c).Else-end-e) _ c.requires.1)

pub bounds-rungs-place : goal.bounds-rungs-place
bounds-rungs-place c =
    omega (arith, place-high c.requires.0 _ c.requires.3 c.loop-e.invariant (far (goal.at.bounds-rungs-place c).Else-end-e) _ c.requires.1 _ c.requires.2)

pub overflow_add-t : goal.overflow_add-t
overflow_add-t c = omega (arith, far (goal.at.overflow_add-t c).Else-end-e, depth_small c.requires.0 _ c.requires.3)

pub returns : goal.returns
returns c = record-end c.requires.0 _ c.requires.3 c.loop-e.invariant (omega arith)
