-- `look::above` meets its contract. Assumes nothing.
use Rattle.std.proofs.Common.{refl}
use Rattle.answers.specs.Answers.{answer_from}
use Rattle.query.proofs.Programs.{written}
use Rattle.query.proofs.look.above.Goals as goal

pub returns : goal.returns
unfolding answer_from
returns c = written _ _ _ c.after_kind.ensures (rw (c.push-three.ensures, c.first_two-two.ensures) refl)
