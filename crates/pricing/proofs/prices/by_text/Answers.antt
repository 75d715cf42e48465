-- `prices::by_text` meets its contract. Assumes nothing.
use mathlib.Core.Path.{sym, ap, ◌∙◌}
use Rattle.base.proofs.RefusalNumbers.{refused-numbered}
use Rattle.sheets.specs.Verdicts.{Verdict}
use Rattle.pricing.specs.Quotes.{refusing}
use Rattle.pricing.proofs.SheetPrices.{price-unfound, price-refused, price-found}
use Rattle.pricing.proofs.prices.by_text.Goals as goal

pub returns-then-number-ne-ACCEPTED : goal.returns-then-number-ne-ACCEPTED
returns-then-number-ne-ACCEPTED c = c.refused.ensures ∙ sym (price-unfound _ _ _ _ c.if-number-ne-ACCEPTED.true)

pub returns-in-Err : goal.returns-in-Err
returns-in-Err c =
    let is = c.in-Err.ensures.answer in
    rw (c.refused-in-Err.ensures, c.number.ensures, c.word.ensures, c.amount.ensures)
    (ap refusing is
    ∙ sym (price-refused _ _ _ _ c.if-number-ne-ACCEPTED.false (λ e. refused-numbered c.in-Err.refusal (ap (λ (w : Verdict). w.number) is ∙ e))))

pub returns-in-Ok : goal.returns-in-Ok
returns-in-Ok c =
    c.by_bands.ensures.priced _ _ c.in-Ok.ensures.checked
    ∙ sym (price-found _ _ _ _ c.if-number-ne-ACCEPTED.false (sym (ap (λ (w : Verdict). w.number) c.in-Ok.ensures.answer)))
