-- `walk::walk` meets its contract. What is written and what the pending chains give is the preorder. Assumes nothing.
use mathlib.Core.Path.{◌≡◌, refl, sym, ap, ◌∙◌}
use Prim.Native.Nat.{◌-◌, ◌<◌}
use native.Mathlib.Omega.{arith}
use lib.ListN.{length}
use Rattle.judge.proofs.walk.Stack.{walk_start, walk-skip, walk_end, room_in, emit-in}
use Rattle.base.proofs.Views.{view-none, view-length, view-pop}
use Rattle.judge.proofs.walk.walk.Goals as goal
use Rattle.judge.proofs.walk.walk.Goals.{Then-cur-n}

pub loop-cur-init : goal.loop-cur-init
loop-cur-init c =
    let ps = c.args.parents.now in
    let e : length ps - length ps ≡ 0 = omega arith in
    record {
      size = refl;
      within = omega arith;
      low = omega arith;
      high = omega arith;
      walked = rw (e, view-none 0 0 c.args.order.now, view-none 0 0 c.args.depths.now, view-none (length ps) 0 c.args.pending.now) (walk_start ps (omega arith) c.args.first.0 c.requires.linked.tops);
    }

room : (c : Then-cur-n) → c.loop-cur.count < length c.args.parents.now
room c =
    let l = c.loop-cur in
    let a = c.args in
    let r = c.requires.room in
    room_in a.parents.now l.order l.depths l.pending a.heads.now a.nexts.now (omega arith) (l.auto.order ∙ r.1) (l.auto.depths ∙ r.2) (l.auto.pending ∙ r.0) a.first.0 c.requires.linked l.count l.sp l.cur.0 (omega arith) (omega arith) (omega arith) (omega arith) l.invariant.walked

pub loop-cur-preserved-then-cur-n : goal.loop-cur-preserved-then-cur-n
loop-cur-preserved-then-cur-n c =
    let l = c.loop-cur in
    let a = c.args in
    let q = c.requires.room in
    let r = room (goal.at.loop-cur-preserved-then-cur-n c).Then-cur-n in
    record {
      size = refl;
      within = omega arith;
      low = omega arith;
      high = omega arith;
      walked = emit-in a.parents.now l.order l.depths l.pending a.heads.now a.nexts.now (omega arith) (l.auto.order ∙ q.1) (l.auto.depths ∙ q.2) (l.auto.pending ∙ q.0) a.first.0 c.requires.linked l.count l.sp l.cur.0 (omega arith) (omega arith) (omega arith) (omega arith) l.invariant.walked (l.sp - 1) (length a.parents.now - l.sp) refl (omega arith);
    }

pub returns-then-sp-n : goal.returns-then-sp-n
returns-then-sp-n c =
    let l = c.loop-cur in
    let ps = c.args.parents.now in
    let e : length ps - l.sp ≡ 0 = omega arith in
    let (o, d) = walk_end ps (omega arith) _ _ (walk-skip ps (omega arith) _ _ _ l.cur.0 (omega arith) (rw (e, view-none l.sp 0 l.pending) at l.invariant.walked)) in
    (sym (view-length 0 l.count l.order (omega (arith, l.auto.order, c.requires.room.1))) ∙ ap length o, o, d)

pub loop-cur-preserved : goal.loop-cur-preserved
loop-cur-preserved c =
    let l = c.loop-cur in
    let ps = c.args.parents.now in
    record {
      size = refl;
      within = omega arith;
      low = omega arith;
      high = omega arith;
      walked = rw (← view-pop l.sp (length ps) l.pending (omega arith) (omega (arith, l.auto.pending, c.requires.room.0))) (walk-skip _ (omega arith) _ _ _ l.cur.0 (omega arith) l.invariant.walked);
    }

pub bounds-order-count : goal.bounds-order-count
bounds-order-count c = omega (arith, room (goal.at.bounds-order-count c).Then-cur-n, c.loop-cur.auto.order, c.requires.room.1)

pub bounds-depths-count : goal.bounds-depths-count
bounds-depths-count c = omega (arith, room (goal.at.bounds-depths-count c).Then-cur-n, c.loop-cur.auto.depths, c.requires.room.2)

pub overflow_sub-sp : goal.overflow_sub-sp
overflow_sub-sp c = omega (arith, room (goal.at.overflow_sub-sp c).Then-cur-n)

pub loop-cur-smaller-then-cur-n : goal.loop-cur-smaller-then-cur-n
loop-cur-smaller-then-cur-n c = omega (arith, room (goal.at.loop-cur-smaller-then-cur-n c).Then-cur-n)
