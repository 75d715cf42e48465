-- `Cells::new` meets its contract. Assumes nothing.
use mathlib.Core.Path.{refl}
use Rattle.base.specs.Lists.{padded}
use Rattle.answers.specs.Answers.{listed}
use Rattle.answers.proofs.Cells.new.Goals as goal

pub returns : goal.returns
unfolding listed padded
returns c = refl
