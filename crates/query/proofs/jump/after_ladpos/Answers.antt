-- `jump::after_ladpos` meets its contract. Assumes nothing.
use Rattle.answers.specs.Steps.{after_ladpos}
use Rattle.query.proofs.Programs.{steps}
use Rattle.query.proofs.jump.after_ladpos.Goals as goal

pub returns-then-index-missing : goal.returns-then-index-missing
unfolding after_ladpos
returns-then-index-missing c = search steps

pub returns-then-table-at : goal.returns-then-table-at
unfolding after_ladpos
returns-then-table-at c = search steps

pub returns : goal.returns
unfolding after_ladpos
returns c = search steps
