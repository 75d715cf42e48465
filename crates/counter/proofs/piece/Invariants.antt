-- Each turn reads a byte at least.
use lib.ListN.{length}
use Rattle.counter.proofs.piece.Given as goal

abbrev pub decreases-loop-rest : goal.decreases-loop-rest
decreases-loop-rest g l = length l.rest
