-- `after_lookup` meets its contract. Assumes nothing.
use mathlib.Core.Path.{sym, ◌∙◌}
use Rattle.premiums.proofs.Pricing.{class-unlisted, class-rated, price-unfound, price-found}
use Rattle.premiums.proofs.after_lookup.Goals as goal

pub returns-then-number-ne-ACCEPTED : goal.returns-then-number-ne-ACCEPTED
returns-then-number-ne-ACCEPTED c rates e = c.refused.ensures ∙ sym (price-unfound rates _ _ c.if-number-ne-ACCEPTED.true)

pub returns-in-Some : goal.returns-in-Some
returns-in-Some c rates e =
    c.priced.ensures
    ∙ sym (price-found rates _ _ c.if-number-ne-ACCEPTED.false ∙ class-rated rates _ c.args.word _ (sym e ∙ c.in-Some.is))

pub returns-in-None : goal.returns-in-None
returns-in-None c rates e =
    c.refused-in-None.ensures ∙ sym (price-found rates _ _ c.if-number-ne-ACCEPTED.false ∙ class-unlisted rates _ c.args.word (sym e ∙ c.in-None.is))
