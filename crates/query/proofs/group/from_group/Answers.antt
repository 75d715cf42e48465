-- `group::from_group` meets its contract. Assumes nothing.
use Rattle.answers.specs.Steps.{from_group}
use Rattle.query.proofs.Programs.{steps}
use Rattle.query.proofs.group.from_group.Goals as goal

pub returns-then-table-member : goal.returns-then-table-member
unfolding from_group
returns-then-table-member c = search steps

pub returns : goal.returns
unfolding from_group
returns c = search steps
