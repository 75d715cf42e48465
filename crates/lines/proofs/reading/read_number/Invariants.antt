-- `reading::read_number` meets its contract: the loop has read the digits before b. Assumes nothing.
use Rattle.lines.proofs.Digits.{Valued}
use Rattle.lines.proofs.reading.read_number.Given as goal

abbrev pub invariant-loop-b : goal.invariant-loop-b
invariant-loop-b l = Valued l.field l.b-index l.value
