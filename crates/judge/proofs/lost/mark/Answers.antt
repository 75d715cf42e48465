-- `lost::mark` meets its contract. The entries gone over are marked. Assumes nothing.
use mathlib.Core.Path.{◌≡◌, ap, ◌∙◌}
use native.Mathlib.Omega.{arith}
use lib.ListN.{length, get_or}
use Rattle.tree.specs.Forest.{order}
use Rattle.tree.proofs.Forests.{order-meets}
use Rattle.judge.proofs.lost.Marks.{mark-more, mark-end}
use Rattle.judge.proofs.lost.mark.Goals as goal
use Rattle.judge.proofs.lost.mark.Goals.{In-loop-v}

word : (c : In-loop-v) → get_or c.args.order.now c.loop-v.v-index 0 ≡ get_or (order c.args.parents.now) c.loop-v.v-index 0
word c = ap (λ l. get_or l c.loop-v.v-index 0) c.requires.1

long : (c : In-loop-v) → length c.loop-v.marks ≡ length c.args.parents.now
long c = c.loop-v.auto.marks ∙ c.fill.ensures.len ∙ c.requires.2

pub bounds-marks-v : goal.bounds-marks-v
bounds-marks-v c =
    let r = (goal.at.bounds-marks-v c).In-loop-v in
    omega (arith, word r, long r, (order-meets c.args.parents.now (omega arith) c.loop-v.v-index (omega (arith, ap length c.requires.1))).0)

pub loop-v-preserved : goal.loop-v-preserved
loop-v-preserved c =
    let r = (goal.at.loop-v-preserved c).In-loop-v in
    mark-more c.args.parents.now (omega arith) c.loop-v.marks c.loop-v.v-index _ (omega (arith, ap length c.requires.1)) (word r) (long r) c.loop-v.invariant

pub returns : goal.returns
returns c =
    mark-end c.args.parents.now (omega arith) c.loop-v.marks c.loop-v.v-index (omega (arith, ap length c.requires.1)) c.loop-v.invariant
