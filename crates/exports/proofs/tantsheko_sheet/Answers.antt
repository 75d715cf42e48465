-- `tantsheko_sheet` meets its contract. Assumes nothing.
use mathlib.Core.Path.{ap, ◌∙◌}
use Rattle.exports.specs.ReplyWords.{verdict_words}
use Rattle.exports.proofs.tantsheko_sheet.Goals as goal

pub returns : goal.returns
returns c = c.verdict_of.ensures ∙ ap verdict_words c.check.ensures.answer
