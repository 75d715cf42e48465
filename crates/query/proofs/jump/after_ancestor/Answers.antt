-- `jump::after_ancestor` meets its contract. Assumes nothing.
use Rattle.answers.specs.Steps.{after_ancestor}
use Rattle.query.proofs.Programs.{steps}
use Rattle.query.proofs.jump.after_ancestor.Goals as goal

pub returns-then-table-w : goal.returns-then-table-w
unfolding after_ancestor
returns-then-table-w c = search steps

pub returns : goal.returns
unfolding after_ancestor
returns c = search steps
