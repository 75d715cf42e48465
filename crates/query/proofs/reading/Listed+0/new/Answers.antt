-- An empty list is a list of no cells. Assumes nothing.
use Rattle.std.proofs.Common.{[]}
use Rattle.query.proofs.Programs.{listing-held}
use Rattle.query.proofs.reading.Listed+0.new.Goals as goal

pub invariant_of-result : goal.invariant_of-result
invariant_of-result c = record { held = rw c.new.ensures (listing-held []) }
