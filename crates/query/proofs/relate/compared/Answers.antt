-- `relate::compared` meets its contract. Assumes nothing.
use Rattle.answers.specs.Steps.{related}
use Rattle.query.proofs.relate.Relations.{compared-goes}
use Rattle.query.proofs.Programs.{steps}
use Rattle.query.proofs.relate.compared.Goals as goal

pub returns-clause-goes : goal.returns-clause-goes
unfolding related
returns-clause-goes c above apart =
    let last = compared-goes c.args.table.words.now c.read-pre_v.result.cells.cells (above c.args.table.n) apart c.read-pre_u.result.word c.read-size_u.result.word c.read-pre_v.result.word in
    rw c.holds.ensures (search (steps, last))
