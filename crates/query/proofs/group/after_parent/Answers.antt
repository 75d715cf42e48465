-- `group::after_parent` meets its contract. Assumes nothing.
use Rattle.std.proofs.Common.{◌≡◌, ◌+◌, arith}
use Rattle.answers.specs.Steps.{after_parent}
use Rattle.query.proofs.Programs.{steps}
use Rattle.query.proofs.group.after_parent.Goals as goal

pub returns-then-table-p : goal.returns-then-table-p
unfolding after_parent
returns-then-table-p c = search steps

pub returns-then-left-eq0 : goal.returns-then-left-eq0
unfolding after_parent
returns-then-left-eq0 c =
    let d = c.args.asked.d in
    let here : d + c.args.left ≡ d = omega (arith, c.if-left-eq0.true) in
    search steps

pub returns : goal.returns
unfolding after_parent
returns c =
    let d = c.args.asked.d in
    let below : d + c.args.left ≡ d → ⊥ = λ z. c.if-left-eq0.false (omega (arith, z)) in
    search steps
