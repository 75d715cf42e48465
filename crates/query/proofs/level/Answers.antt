-- `level` meets its contract. Assumes nothing.
use Rattle.std.proofs.Common.{◌≡◌, length, sym, ◌∙◌, rules}
use Rattle.answers.specs.Answers.{answer_to, answer_words}
use Rattle.answers.specs.Steps.{level}
use Rattle.answers.proofs.AnswerWords.{words_same}
use Rattle.answers.proofs.Bounds.{level-within}
use Rattle.answers.proofs.Numbers.{level-numbers}
use Rattle.climbs.proofs.Questions.{level-right}
use Rattle.query.proofs.Promises.{promised-of}
use Rattle.query.proofs.level.Goals as goal

pub returns : goal.returns
returns c =
    let args = c.args in
    let call = c.answered.ensures.1 in
    let written = call.met in
    let words : call.left.now ≡ answer_words (answer_to args.table.now (level (length args.table.now) args.v.0 args.d)) = search rules in
    let all = promised-of _ (λ len. level len args.v.0 args.d) _ _ _ (λ len. level-within len _ _) (λ len. level-numbers len _ _) _ (λ ps d. level-right ps _ d args.v.0 args.d) (words_same _ _ (sym call.leaves ∙ words)) in
    record { answer = all.0; numbers = all.1.0; few = all.1.1.0; local = all.1.1.1.0; right = all.1.1.1.1 }
