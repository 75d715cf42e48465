-- `branching::child_towards` meets its contract. Assumes nothing.
use Rattle.std.proofs.Common.{length}
use Rattle.base.specs.Numbers.{not_above}
use Rattle.answers.specs.Reading.{done}
use Rattle.answers.specs.Answers.{answer_from}
use Rattle.answers.specs.Steps.{strictly, branch}
use Rattle.query.proofs.branching.child_towards.Goals as goal

pub returns-then-relation : goal.returns-then-relation
unfolding branch
returns-then-relation c =
    let args = c.args in
    let known = c.in-Ok.ensures.known.0 in
    let goes = c.in-Ok.ensures.goes (strictly (length args.table.now) args.u.0 args.v.0) (done (not_above args.u.0)) in
    rw (c.strictly.ensures, known) (rw (c.if-relation.true, known) at goes)

pub returns-else-relation : goal.returns-else-relation
unfolding branch answer_from
returns-else-relation c =
    let goes = rw c.if-relation.false at c.in-Ok.ensures.goes _ _ in
    rw c.answer.ensures goes

pub returns-in-Err : goal.returns-in-Err
unfolding branch
returns-in-Err c = c.in-Err.ensures.goes _ _
