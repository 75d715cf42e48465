-- An answer from words meets its contract: its words are the eighteen, one by one. Assumes nothing.
use borrow.Author.Rules.{rules}
use Rattle.base.specs.Lists.{each}
use Rattle.answers.specs.Answers.{answer_words}
use Rattle.answers.proofs.AnswerWords.{one_by_one}
use Rattle.answers.proofs.AnswerFromArrayU32ANSWERWORDS.from.Goals as goal

pub returns : goal.returns
unfolding answer_words each
returns c = one_by_one 18 _ (search rules)
