-- `relate::relate` meets its contract. Assumes nothing.
use Rattle.std.proofs.Common.{◌≡◌, [], ◌∷◌, ◌∙◌}
use Rattle.answers.specs.Answers.{listed}
use Rattle.query.proofs.look.Counts.{one_cell}
use Rattle.query.proofs.relate.relate.Goals as goal

pub returns-clause-goes : goal.returns-clause-goes
returns-clause-goes c above apart =
    let one : c.push-one.result.cells ≡ listed (0 ∷ []) = rw (c.push-one.ensures, c.new-none.ensures) one_cell in
    c.related.ensures.goes above apart ∙ rw (one, c.in-Some.ensures.0) (c.in-Some.ensures.1 _)
