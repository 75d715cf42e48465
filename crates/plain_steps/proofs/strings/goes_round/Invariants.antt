-- `strings::goes_round` meets its contract. The invariant: what is left to read says whether the string goes round. Assumes nothing.
use Rattle.plain_steps.proofs.strings.ClosedStrings.{Left}
use Rattle.plain_steps.proofs.strings.goes_round.Given as goal

abbrev pub invariant-loop-rest : goal.invariant-loop-rest
invariant-loop-rest l = Left l.string l.rest l.«open»

abbrev pub decreases-loop-rest : goal.decreases-loop-rest
decreases-loop-rest l = l.rest
