-- `premium_words` meets its contract. Assumes nothing.
use Rattle.premiums.specs.Quotes.{quote_to}
use Rattle.premiums.proofs.QuoteWords.{quote-words}
use Rattle.premiums.proofs.premium_words.Goals as goal

pub returns : goal.returns
unfolding quote_to
returns c =
    let all = quote-words _ _ _ c.after_lookup-price.result _ c.rating_words.ensures (c.after_lookup-price.ensures _ c.rate_at-rate.ensures) in record { answer = all.0; cents = all.1 }
