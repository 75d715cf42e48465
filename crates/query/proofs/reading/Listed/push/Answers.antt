-- A list with one cell more is a list of one cell more. Assumes nothing.
use Rattle.query.proofs.Programs.{pushed-held}
use Rattle.query.proofs.reading.Listed.push.Goals as goal

pub invariant_of-result : goal.invariant_of-result
invariant_of-result g c = record { held = rw c.push.ensures (pushed-held _ _ _ _ c.args.self.held c.requires.1 c.requires.0) }
