-- `sweeping::lowest_fault` meets its contract. Assumes nothing.
use mathlib.Core.Path.{◌≡◌}
use mathlib.Core.Bool.{true}
use Prim.Native.Nat.{◌-◌, ◌<◌}
use lib.ListN.{length}
use Rattle.bands.specs.Bands.{is_class}
use Rattle.sheets.proofs.sweeping.Searches.{Checking}
use Rattle.sheets.proofs.sweeping.lowest_fault.Given as goal

abbrev pub invariant-loop-class : goal.invariant-loop-class
invariant-loop-class l = Checking l.words l.keys l.depths l.d l.class l.place × (l.class < length l.depths → is_class l.depths l.d l.class ≡ true)

abbrev pub decreases-loop-class : goal.decreases-loop-class
decreases-loop-class l = length l.depths - l.class
