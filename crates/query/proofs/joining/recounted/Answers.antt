-- `joining::recounted` meets its contract. Assumes nothing.
use Rattle.query.proofs.joining.Recounts.{recount}
use Rattle.query.proofs.joining.recounted.Goals as goal

pub returns : goal.returns
returns c = rw (c.one.ensures.0, c.one-2.ensures.0, c.one-3.ensures.0, c.one-4.ensures.0, recount c.args.cells c.requires) cc
