-- An answer in words meets its contract: fifteen places are the places below fifteen. Assumes nothing.
use mathlib.Core.Path.{ap}
use mathlib.Core.List.{[], ◌∷◌, ◌++◌}
use borrow.Author.Rules.{rules}
use Rattle.base.specs.Lists.{each}
use Rattle.answers.specs.Answers.{answer_words}
use Rattle.answers.proofs.AnswerWords.{one_by_one}
use Rattle.answers.proofs.ArrayU32ANSWERWORDSFromAnswer.from.Goals as goal

pub returns : goal.returns
unfolding answer_words each
returns c =
    let r = c.args.answer in
    ap (λ l. r.number ∷ r.word ∷ (l ++ (r.cells.count ∷ []))) (one_by_one 15 r.cells.at (search rules))
