-- `opened` meets its contract. Assumes nothing.
use Rattle.query.proofs.StepOne.{step-told, step-same}
use Rattle.query.proofs.opened.Goals as goal

pub returns : goal.returns
returns c = let by = c.opened.ensures in rw c.ok_or.ensures.value (record { answer = step-told _ _ by; same = step-same _ _ by })
