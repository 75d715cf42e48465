-- `jump::after_class` meets its contract. Assumes nothing.
use Rattle.answers.specs.Steps.{after_class}
use Rattle.query.proofs.Programs.{steps}
use Rattle.query.proofs.jump.after_class.Goals as goal

pub returns-then-table-w : goal.returns-then-table-w
unfolding after_class
returns-then-table-w c = search steps

pub returns : goal.returns
unfolding after_class
returns c = search steps
