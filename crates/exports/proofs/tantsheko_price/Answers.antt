-- `tantsheko_price` meets its contract: sum and cents are the numbers that their bits stand for. Assumes nothing.
use mathlib.Core.Path.{◌≡◌, ap, ◌∙◌}
use borrow.Author.Rules.{rules}
use mir.Syntax.{w64}
use mir.Val.{of_z, to_z}
use mir.Facts.{to_z-of_z}
use Rattle.pricing.specs.declared.Money.{Money}
use Rattle.exports.proofs.tantsheko_price.Goals as goal

pub returns : goal.returns
returns c =
    let k = c.price_words-money in
    let sum = to_z-of_z c.ranges.sum in
    let cents : to_z w64 (of_z w64 k.result.cents.0) ≡ k.result.cents.0 = to_z-of_z {w = w64} (search rules) in
    let money = rw sum at k.ensures.money in
    record { answer = rw sum at k.ensures.answer; amount = ap (λ (m : Money). m.amount) money; cents = cents ∙ ap (λ (m : Money). m.cents.0) money }
