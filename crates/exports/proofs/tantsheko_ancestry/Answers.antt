-- `tantsheko_ancestry` meets its contract. Assumes nothing.
use mathlib.Core.Path.{ap, ◌∙◌}
use Rattle.answers.specs.Answers.{answer_words}
use Rattle.exports.proofs.tantsheko_ancestry.Goals as goal

pub returns : goal.returns
returns c = c.into.ensures ∙ ap answer_words c.ancestry-found.ensures.answer
