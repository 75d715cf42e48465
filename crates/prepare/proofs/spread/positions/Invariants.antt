-- `spread::positions` meets its contract: the loop has written the positions before `at`. Assumes nothing.
use Rattle.prepare.proofs.spread.Writes.{Written}
use Rattle.prepare.proofs.spread.positions.Given as goal

abbrev pub invariant-loop-at : goal.invariant-loop-at
invariant-loop-at l = Written l.tree.parents.now (λ k. k) l.at l.cells
