-- `measure::measures` meets its contract: each position has the measures of what is below its entry from the end on. Assumes nothing.
use Rattle.prepare.proofs.measure.Turns.{MeasuredFrom}
use Rattle.prepare.proofs.measure.measures.Given as goal

abbrev pub invariant-loop-at : goal.invariant-loop-at
invariant-loop-at l = MeasuredFrom l.parents l.at l.sizes l.heights l.longs
