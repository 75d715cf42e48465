-- `lost::mark` meets its contract. The entries gone over are marked. Assumes nothing.
use Rattle.judge.proofs.lost.Marks.{MarkedTo}
use Rattle.judge.proofs.lost.mark.Given as goal

abbrev pub invariant-loop-v : goal.invariant-loop-v
invariant-loop-v l = MarkedTo l.parents l.v-index l.marks
