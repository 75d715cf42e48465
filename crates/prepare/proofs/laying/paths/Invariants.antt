-- `laying::paths` meets its contract: the loop has laid the paths of the positions before the next. Assumes nothing.
use Rattle.prepare.proofs.laying.Turns.{PathsBefore}
use Rattle.prepare.proofs.laying.paths.Given as goal

abbrev pub invariant-loop-i : goal.invariant-loop-i
invariant-loop-i l = PathsBefore l.tree.parents.now l.i l.paths l.words l.places l.cells
