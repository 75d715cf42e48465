-- `look::rating_words` meets its contract. Assumes nothing.
use Rattle.std.proofs.Common.{ap, ◌∙◌}
use Rattle.answers.specs.Answers.{answer_words}
use Rattle.query.proofs.look.Lookups.{at_rating, whole-rating, rating-climbed}
use Rattle.query.proofs.look.rating_words.Goals as goal

pub returns-in-Some : goal.returns-in-Some
returns-in-Some c =
    let found = c.in-Some.ensures in
    c.climbed.ensures ∙ ap answer_words (rw (found.0, found.1, c.saturating_sub.ensures) (rating-climbed _ _ _ _ _ _) ∙ found.2 (at_rating _ _) ∙ whole-rating _ _ _)

pub returns-in_default : goal.returns-in_default
returns-in_default c = c.in_default.ensures (at_rating _ _) ∙ ap answer_words (whole-rating _ _ _)
