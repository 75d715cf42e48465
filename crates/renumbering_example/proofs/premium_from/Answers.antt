-- `premium_from` meets its contract. Assumes nothing.
use mathlib.Core.Path.{refl, ◌∙◌}
use Rattle.base.proofs.RefusalNumbers.{refused-numbered}
use Rattle.renumbering_example.specs.Offices.{office}
use Rattle.renumbering_example.proofs.Offices.{premium-refused, premium-asked}
use Rattle.renumbering_example.proofs.premium_from.Goals as goal

pub returns-in-Err-clause-answer : goal.returns-in-Err-clause-answer
returns-in-Err-clause-answer c =
    let a = c.args in
    rw (c.refused.ensures, c.number.ensures, c.word.ensures)
    (premium-refused (office a.parents.now a.rates.now a.table.now a.space.now a.v.0) a.d a.sum.0 _ c.in-Err.ensures.answer (refused-numbered c.in-Err.refusal))

pub returns-clause-answer : goal.returns-clause-answer
returns-clause-answer c =
    let a = c.args in
    let o = office a.parents.now a.rates.now a.table.now a.space.now a.v.0 in
    c.premium-quote.ensures.right o.list (c.in_default.ensures.prepared) ∙ premium-asked o a.d a.sum.0 _ c.in_default.ensures.answer refl
