-- `strings::shape_strings` meets its contract. Assumes nothing.
use Rattle.std.proofs.Common.{arith}
use Rattle.plain_steps.proofs.strings.StringLists.{start, small, stepped, finish}
use Rattle.plain_steps.proofs.strings.shape_strings.Goals as goal

pub loop-string-init : goal.loop-string-init
loop-string-init c = start

pub noted-at-requires : goal.noted-at-requires
noted-at-requires c = (omega arith, omega (arith, small _ _ _ c.loop-string.invariant))

pub loop-string-preserved : goal.loop-string-preserved
loop-string-preserved c = stepped _ _ _ c.loop-string.invariant (omega arith) _ _ c.noted-at.ensures.with c.noted-at.ensures.without

pub returns : goal.returns
returns c = finish _ _ _ c.loop-string.invariant (omega arith)
