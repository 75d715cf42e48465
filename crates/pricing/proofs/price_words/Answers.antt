-- `price_words` meets its contract. Assumes nothing.
use mathlib.Core.Path.{◌∙◌}
use Rattle.pricing.proofs.QuoteWords.{price-words}
use Rattle.pricing.proofs.price_words.Goals as goal

pub returns : goal.returns
returns c =
    let w = price-words _ _ _ _ _ c.by_text-price.result _ c.rating_words.ensures c.by_text-price.ensures in
    record { answer = c.put_price.ensures.0 ∙ w.0; money = c.put_price.ensures.1 ∙ w.1 }
