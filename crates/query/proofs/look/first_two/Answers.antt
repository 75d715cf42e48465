-- `look::first_two` meets its contract. Assumes nothing.
use Rattle.std.proofs.Common.{[], ◌∷◌, lit≤}
use Rattle.answers.specs.Answers.{pushed_all}
use Rattle.answers.proofs.ProgramAnswers.{push-all-listed}
use Rattle.query.proofs.look.first_two.Goals as goal

pub returns : goal.returns
unfolding pushed_all
returns c = rw (c.push.ensures, c.push-one.ensures, c.new-none.ensures) (push-all-listed [] (0 ∷ _ ∷ []) (lit≤ tt))
