-- `sweeping::is_covered` meets its contract. Assumes nothing.
use mathlib.Core.Path.{refl}
use Rattle.bands.specs.Bands.{is_covered}
use Rattle.sheets.proofs.sweeping.is_covered.Goals as goal

pub returns : goal.returns
unfolding is_covered
returns c = refl
