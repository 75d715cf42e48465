-- `tantsheko_quotation` meets its contract: sum and cents are the numbers that their bits stand for. Assumes nothing.
use mathlib.Core.Path.{◌≡◌}
use borrow.Author.Rules.{rules}
use mir.Syntax.{w64}
use mir.Val.{of_z, to_z}
use mir.Facts.{to_z-of_z}
use Rattle.exports.proofs.tantsheko_quotation.Goals as goal

pub returns : goal.returns
returns c =
    let k = c.quotation_words-money in
    let sum = to_z-of_z c.ranges.sum in
    let cents : to_z w64 (of_z w64 k.result.cents.0) ≡ k.result.cents.0 = to_z-of_z {w = w64} (search rules) in
    rw cents (rw sum at k.ensures)
