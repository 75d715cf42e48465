-- `group::after_position` meets its contract. Assumes nothing.
use Rattle.std.proofs.Common.{arith}
use Rattle.answers.specs.Steps.{after_class, after_position}
use Rattle.query.proofs.Programs.{steps, written, le_yes}
use Rattle.query.proofs.group.after_position.Goals as goal

pub returns-then-table-position : goal.returns-then-table-position
unfolding after_class after_position
returns-then-table-position c = written _ _ _ c.end.ensures (le_yes _ _ _ _ _ _ _ (omega arith) (search steps))

pub returns-then-table-at : goal.returns-then-table-at
unfolding after_class after_position
returns-then-table-at c = search steps

pub returns-then-table-class : goal.returns-then-table-class
unfolding after_class after_position
returns-then-table-class c = search steps

pub returns : goal.returns
unfolding after_class after_position
returns c = search steps
