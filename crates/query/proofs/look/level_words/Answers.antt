-- `look::level_words` meets its contract. Assumes nothing.
use Rattle.std.proofs.Common.{ap, ◌∙◌, rules}
use Rattle.answers.specs.Answers.{answer_words}
use Rattle.query.proofs.look.Lookups.{at_level, whole-level, level-by}
use Rattle.query.proofs.look.level_words.Goals as goal

pub returns-in-Some : goal.returns-in-Some
returns-in-Some c =
    let found = c.in-Some.ensures in
    c.climbed.ensures ∙ ap answer_words (rw (found.0, found.1) (level-by _ _ _ _ _ _ _ c.then.ensures.variant (search rules)) ∙ found.2 (at_level _ _) ∙ whole-level _ _ _)

pub returns-in_default : goal.returns-in_default
returns-in_default c = c.in_default.ensures (at_level _ _) ∙ ap answer_words (whole-level _ _ _)
