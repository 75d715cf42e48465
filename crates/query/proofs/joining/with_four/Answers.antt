-- `joining::with_four` meets its contract. Assumes nothing.
use Rattle.query.proofs.Programs.{listing}
use Rattle.query.proofs.joining.Joins.{four-behind}
use Rattle.query.proofs.joining.with_four.Goals as goal

pub returns : goal.returns
returns g c = let p = c.requires in four-behind _ _ _ (listing _ _ c.args.cells.held) (listing _ _ p.1.held) p.0 p.1.four
