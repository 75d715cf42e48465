-- `answered` meets its contract. Assumes nothing.
use Rattle.std.proofs.Common.{sym, refl}
use Rattle.query.proofs.answered.Goals as goal

pub returns : goal.returns
returns g c = (_, record { shown = _; shows = refl; left = _; met = c.write.ensures; leaves = sym c.from.ensures })
