-- `price` meets its contract. Assumes nothing.
use Rattle.pricing.proofs.Promises.{promised}
use Rattle.pricing.proofs.price.Goals as goal

pub returns : goal.returns
returns c =
    let s = c.args in
    let r = c.rating-found.ensures in
    let all = promised s.table.now s.v.0 s.d s.sum.0 c.rating-found.result s.text.now (r.answer, (r.numbers, (r.few, (r.local, (r.right, (r.known, r.smaller)))))) in
    record {
      answer = rw (c.quoted.ensures, c.by_text.ensures) all.0;
      numbers = rw (c.quoted.ensures, c.by_text.ensures) all.1.0;
      few = rw c.quoted.ensures all.1.1.0;
      local = rw (c.quoted.ensures, c.by_text.ensures) all.1.1.1.0;
      right = rw (c.quoted.ensures, c.by_text.ensures) all.1.1.1.1;
    }
