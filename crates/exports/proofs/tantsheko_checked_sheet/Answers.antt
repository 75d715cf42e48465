-- `tantsheko_checked_sheet` meets its contract. Assumes nothing.
use mathlib.Core.Path.{◌≡◌, refl, ap, ◌∙◌}
use Rattle.std.specs.Prelude.{ℕ, Result, Ok, Err, OnOk, OnErr}
use Rattle.base.specs.declared.refusals.Refusal.{Refusal}
use Rattle.base.proofs.RefusalNumbers.{refused-numbered}
use Rattle.sheets.specs.Verdicts.{Verdict, told}
use Rattle.exports.specs.ReplyWords.{verdict_words}
use Rattle.exports.proofs.tantsheko_checked_sheet.Goals as goal

-- what holds of a refusal and of an accepted sheet, by the number
by_number : (r : Result ℕ Refusal) (P Q : Type 0) → OnErr r P → OnOk r Q → (((told r).number ≡ 0 → ⊥) → P) × ((told r).number ≡ 0 → Q)
by_number (Ok m) P Q p q = (λ n. absurd (n refl), λ z. q)
by_number (Err e) P Q p q = (λ n. p, λ z. absurd (refused-numbered e z))

pub returns : goal.returns
returns c =
    let k = c.check_into in
    let is = k.ensures.answer in
    let both = by_number k.result _ _ k.ensures.kept k.ensures.checked in
    let number = ap (λ (v : Verdict). v.number) is in
    record { answer = c.verdict_of.ensures ∙ ap verdict_words is; kept = rw number at both.0; checked = rw number at both.1 }
