-- `rating` meets its contract. Assumes nothing.
use Rattle.std.proofs.Common.{◌≡◌, length, sym, ◌∙◌, rules}
use Rattle.answers.specs.Answers.{answer_to, answer_words}
use Rattle.answers.specs.Steps.{rating}
use Rattle.answers.proofs.AnswerWords.{words_same}
use Rattle.query.proofs.Ratings.{rated}
use Rattle.query.proofs.rating.Goals as goal

pub returns : goal.returns
returns c =
    let args = c.args in
    let call = c.answered.ensures.1 in
    let written = call.met in
    let words : call.left.now ≡ answer_words (answer_to args.table.now (rating (length args.table.now) args.v.0 args.d)) = search rules in
    let all = rated _ args.v.0 args.d _ (words_same _ _ (sym call.leaves ∙ words)) in
    record { answer = all.0; numbers = all.1.0; few = all.1.1.0; local = all.1.1.1.0; right = all.1.1.1.1.0; known = all.1.1.1.1.1.0; smaller = all.1.1.1.1.1.1 }
