-- `tantsheko_branch` meets its contract. Assumes nothing.
use mathlib.Core.Path.{ap, ◌∙◌}
use Rattle.answers.specs.Answers.{answer_words}
use Rattle.exports.proofs.tantsheko_branch.Goals as goal

pub returns : goal.returns
returns c = c.into.ensures ∙ ap answer_words c.branch-found.ensures.answer
