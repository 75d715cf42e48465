-- `group::in_group` meets its contract. Assumes nothing.
use Rattle.std.proofs.Common.{◌≡◌, ◌+◌, ◌-◌, ◌∙◌, arith}
use Rattle.base.specs.Limits.{group_limit}
use Rattle.shapes.specs.Climbs.{local_depth}
use Rattle.shapes.proofs.Fields.{out-depth}
use Rattle.answers.specs.Steps.{in_group}
use Rattle.query.proofs.Programs.{steps, written, le_yes, le-no}
use Rattle.query.proofs.group.in_group.Goals as goal

-- the climbs out are one more than the depth
pub returns-then-out-climbs : goal.returns-then-out-climbs
unfolding in_group
returns-then-out-climbs c =
    let k = c.out-out.ensures ∙ out-depth _ _ _ c.requires.packs c.requires.local-in in
    let args = c.args in
    let d = args.asked.d in
    let left : d + (args.climbs - c.out-out.result) ≡ d + args.climbs - local_depth group_limit args.shape args.member.local - 1 = omega (arith, k) in
    let up : d + args.climbs - d ≡ args.climbs = omega arith in
    written _ _ _ c.after_parent.ensures (rw (← left, up) (le-no _ _ _ _ _ _ _ (omega (arith, k)) (search steps)))

pub returns : goal.returns
unfolding in_group
returns c =
    let k = c.out-out.ensures ∙ out-depth _ _ _ c.requires.packs c.requires.local-in in
    let to = c.reached-to.ensures ∙ c.requires.packs.cells _ in
    let d = c.args.asked.d in
    let up : d + c.args.climbs - d ≡ c.args.climbs = omega arith in
    written _ _ _ c.after_position.ensures (rw (up, ← to) (le_yes _ _ _ _ _ _ _ (omega (arith, k)) (search steps)))
