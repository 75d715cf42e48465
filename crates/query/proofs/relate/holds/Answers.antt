-- `relate::holds` meets its contract. Assumes nothing.
use Rattle.query.proofs.relate.Relations.{late, in-time}
use Rattle.query.proofs.relate.holds.Goals as goal

pub returns-then-other-first : goal.returns-then-other-first
returns-then-other-first c = late _ _ _ c.if-other-first.true

pub returns : goal.returns
returns c = in-time _ _ _ c.if-other-first.false
