-- `relate::related` meets its contract. Assumes nothing.
use Rattle.answers.specs.Steps.{related}
use Rattle.query.proofs.Programs.{steps}
use Rattle.query.proofs.relate.related.Goals as goal

pub returns-then-table-u-clause-goes : goal.returns-then-table-u-clause-goes
unfolding related
returns-then-table-u-clause-goes c above apart = search steps

pub returns-then-table-v-clause-goes : goal.returns-then-table-v-clause-goes
unfolding related
returns-then-table-v-clause-goes c above apart = search steps
