-- `look::climb_words` meets its contract. Assumes nothing.
use Rattle.std.proofs.Common.{ap, ◌∙◌}
use Rattle.answers.specs.Answers.{answer_words}
use Rattle.query.proofs.look.Lookups.{at_climb, whole-climb, climb-by}
use Rattle.query.proofs.look.climb_words.Goals as goal

pub returns-in-Some : goal.returns-in-Some
returns-in-Some c =
    let found = c.in-Some.ensures in
    c.climbed.ensures ∙ ap answer_words (rw (found.0, found.1) (climb-by _ _ _ _ _ _ _ c.then_some.ensures) ∙ found.2 (at_climb _ _) ∙ whole-climb _ _ _)

pub returns-in_default : goal.returns-in_default
returns-in_default c = c.in_default.ensures (at_climb _ _) ∙ ap answer_words (whole-climb _ _ _)
