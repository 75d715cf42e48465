-- `two_premiums` meets its contract. Assumes nothing.
use mathlib.Core.Path.{◌≡◌, ap, ◌∙◌}
use borrow.Author.Rules.{rules}
use lib.ListN.{length}
use Rattle.table.specs.Preparing.{space_after}
use Rattle.renumbering_example.specs.Offices.{office, premium_from}
use Rattle.renumbering_example.proofs.Offices.{told-premiums, same-table}
use Rattle.renumbering_example.proofs.two_premiums.Goals as goal

pub returns : goal.returns
returns c =
    let a = c.args in
    let one = c.premium_from-one in
    let other = c.premium_from-other in
    let x = office a.list1.now a.rates1.now a.table1.now a.space.now a.v.0 in
    let y = office a.list2.now a.rates2.now a.table2.now a.space.now a.w.0 in
    let kept : length one.new.space ≡ length a.space.now = search rules in
    let first = one.ensures.answer in
    let second = other.ensures.answer ∙ ap (λ k. premium_from (record { list = y.list; tariff = y.tariff; table = y.table; space = k; entry = y.entry }) a.d a.sum.0) kept in
    let (same, paid) = told-premiums x y a.d a.sum.0 one.result other.result first second in record { first = first; second = second; same = same; paid = paid; written1 = one.ensures.written; written2 = other.ensures.written ∙ same-table a.list2.now a.table2.now a.space.now _ kept; left = other.ensures.left ∙ ap (space_after a.list2.now a.table2.now) one.ensures.left }
