-- `quotation_words` meets its contract. Assumes nothing.
use Rattle.pricing.proofs.QuoteWords.{quotation-words}
use Rattle.pricing.proofs.quotation_words.Goals as goal

pub returns : goal.returns
returns c =
    rw (c.put_price.ensures.0, c.put_price.ensures.1)
    (quotation-words c.args.sheet.now c.args.table.now c.args.v.0 c.args.sum.0 c.by_sheet-price.result _ (rw c.level_of.ensures at c.rating_words.ensures) c.by_sheet-price.ensures)
