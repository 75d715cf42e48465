-- `quotation` meets its contract. Assumes nothing.
use Rattle.query.proofs.Ratings.{Rated}
use Rattle.pricing.proofs.Promises.{quotation}
use Rattle.pricing.proofs.quotation.Goals as goal

pub returns : goal.returns
returns c =
    let s = c.args in
    let r = c.rating-found.ensures in
    let found : Rated s.table.now s.v.0 c.level_of.result c.rating-found.result = (r.answer, (r.numbers, (r.few, (r.local, (r.right, (r.known, r.smaller)))))) in
    rw c.quoted.ensures
    (quotation s.sheet.now s.table.now s.v.0 s.sum.0 c.rating-found.result (rw c.level_of.ensures at found) c.by_sheet.result c.by_sheet.ensures)
