-- `spread::copy` meets its contract: the loop has copied the words before `at`. Assumes nothing.
use mathlib.Core.Path.{◌≡◌}
use lib.ListN.{length, get_or}
use Rattle.prepare.proofs.spread.Writes.{Ran}
use Rattle.prepare.proofs.spread.copy.Given as goal

abbrev pub invariant-loop-at : goal.invariant-loop-at
invariant-loop-at l = (length l.to ≡ length l.from) × Ran (λ k. get_or l.from k 0) l.at l.to
