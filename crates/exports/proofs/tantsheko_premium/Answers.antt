-- `tantsheko_premium` meets its contract: sum and cents are the numbers that their bits stand for. Assumes nothing.
use mathlib.Core.Path.{◌≡◌, ap, ◌∙◌}
use borrow.Author.Rules.{rules}
use mir.Syntax.{w64}
use mir.Val.{of_z, to_z}
use mir.Facts.{to_z-of_z}
use Rattle.exports.proofs.tantsheko_premium.Goals as goal

pub returns : goal.returns
returns c =
    let asked = c.premium_words-premium in
    let sum = to_z-of_z c.ranges.sum in
    let cents : to_z w64 (of_z w64 asked.result.0) ≡ asked.result.0 = to_z-of_z {w = w64} (search rules) in
    record { answer = rw sum at asked.ensures.answer; cents = cents ∙ (rw sum at (ap (λ r. r.0) asked.ensures.cents)) }
