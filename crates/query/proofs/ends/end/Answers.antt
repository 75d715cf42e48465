-- `ends::end` meets its contract. Assumes nothing.
use Rattle.answers.specs.Answers.{answer_words}
use Rattle.query.proofs.ends.end.Goals as goal

pub returns-then-answer-eq-ACCEPTED : goal.returns-then-answer-eq-ACCEPTED
unfolding answer_words
returns-then-answer-eq-ACCEPTED c = rw (c.into.ensures, c.if-answer-eq-ACCEPTED.true) cc
