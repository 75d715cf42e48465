-- `joining::with_ten` meets its contract. Assumes nothing.
use Rattle.std.proofs.Common.{refl}
use Rattle.base.specs.Lists.{each}
use Rattle.query.proofs.Programs.{listing}
use Rattle.query.proofs.joining.Joins.{rest-behind}
use Rattle.query.proofs.joining.with_ten.Goals as goal

pub returns : goal.returns
unfolding each
returns c = let p = c.requires in rest-behind _ _ 5 (listing _ _ c.args.cells.held) (listing _ _ p.0) 10 refl p.1
