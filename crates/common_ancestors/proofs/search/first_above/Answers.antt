-- `search::first_above` meets its contract. Assumes nothing.
use Rattle.common_ancestors.proofs.Narrowing.{own-reached}
use Rattle.common_ancestors.proofs.search.first_above.Goals as goal

pub returns-then-is_above-clause-right : goal.returns-then-is_above-clause-right
returns-then-is_above-clause-right c ps g = own-reached ps _ _ _ _ _ g ((c.is_above.ensures ps g.of g.first g.second).yes c.if-is_above.true)

pub returns-clause-right : goal.returns-clause-right
returns-clause-right c ps g = c.search.ensures.right ps g ((c.is_above.ensures ps g.of g.first g.second).no c.if-is_above.false)
