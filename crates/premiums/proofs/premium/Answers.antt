-- `premium` meets its contract. Assumes nothing.
use mathlib.Core.Path.{ap}
use Rattle.query.proofs.Ratings.{rated}
use Rattle.premiums.specs.Quotes.{quoted}
use Rattle.premiums.proofs.Promises.{promised}
use Rattle.premiums.proofs.premium.Goals as goal

pub returns : goal.returns
returns c =
    let args = c.args in
    let looked = c.rating-found in
    let all = promised args.table.now args.rates.now args.v.0 args.d args.sum.0 looked.result _ (rated _ _ _ _ looked.ensures.answer) (ap (λ p. quoted p looked.result.cells) (c.after_lookup-price.ensures args.rates.now c.rate_at-rate.ensures)) in
    record { answer = all.0; numbers = all.1.0; few = all.1.1.0; local = all.1.1.1.0; right = all.1.1.1.1 }
