-- `measure::above` meets its contract: ABOVE is there for the positions before `at`, and the climb from the last of them by depth. Assumes nothing.
use Rattle.prepare.proofs.measure.RootPaths.{AboveTo}
use Rattle.prepare.proofs.measure.above.Given as goal

abbrev pub invariant-loop-at : goal.invariant-loop-at
invariant-loop-at l = AboveTo l.parents l.at l.aboves l.climb
