-- `climb` meets its contract. Assumes nothing.
use Rattle.std.proofs.Common.{◌≡◌, length, sym, ◌∙◌, rules}
use Rattle.answers.specs.Answers.{answer_to, answer_words}
use Rattle.answers.specs.Steps.{climbing}
use Rattle.answers.proofs.AnswerWords.{words_same}
use Rattle.answers.proofs.Bounds.{climbing-within}
use Rattle.answers.proofs.Numbers.{climbing-numbers}
use Rattle.climbs.proofs.Questions.{climb-right}
use Rattle.query.proofs.Promises.{promised-of}
use Rattle.query.proofs.climb.Goals as goal

pub returns : goal.returns
returns c =
    let args = c.args in
    let call = c.answered.ensures.1 in
    let written = call.met in
    let words : call.left.now ≡ answer_words (answer_to args.table.now (climbing (length args.table.now) args.v.0 args.k)) = search rules in
    let all = promised-of _ (λ len. climbing len args.v.0 args.k) _ _ _ (λ len. climbing-within len _ _) (λ len. climbing-numbers len _ _) _ (λ ps d. climb-right ps _ d args.v.0 args.k) (words_same _ _ (sym call.leaves ∙ words)) in
    record { answer = all.0; numbers = all.1.0; few = all.1.1.0; local = all.1.1.1.0; right = all.1.1.1.1 }
