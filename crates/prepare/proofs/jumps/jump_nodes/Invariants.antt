-- `jumps::jump_nodes` meets its contract: the jump entries among the positions before the next stand in the first cells, in preorder. Assumes nothing.
use Rattle.prepare.proofs.jumps.Nodes.{JumpsBefore}
use Rattle.prepare.proofs.jumps.jump_nodes.Given as goal

abbrev pub invariant-loop-v : goal.invariant-loop-v
invariant-loop-v l = JumpsBefore l.tree.parents.now l.v-index l.cells
