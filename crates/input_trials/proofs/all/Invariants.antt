-- Each turn goes on behind an input.
use lib.ListN.{length}
use Rattle.input_trials.proofs.all.Given as goal

abbrev pub decreases-loop-rest : goal.decreases-loop-rest
decreases-loop-rest g l = length l.rest
