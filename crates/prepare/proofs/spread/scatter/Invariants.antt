-- `spread::scatter` meets its contract: the loop has written the words of the positions that it has gone over. Assumes nothing.
use lib.ListN.{length, get_or}
use Rattle.prepare.proofs.spread.Writes.{Written}
use Rattle.prepare.proofs.spread.scatter.Given as goal

abbrev pub invariant-loop-v : goal.invariant-loop-v
invariant-loop-v l = Written l.tree.parents.now (λ k. get_or l.values k 0) (length l.yielded) l.cells
