-- `listing::read_lines` meets its contract. Assumes nothing.
use mathlib.Core.Path.{◌≡◌}
use Prim.Native.Nat.{◌-◌}
use lib.ListN.{length}
use Rattle.base.specs.Amounts.{most_lines}
use Rattle.sheets.proofs.listing.Turns.{Turned}
use Rattle.sheets.proofs.listing.read_lines.Given as goal

abbrev pub invariant-loop-at : goal.invariant-loop-at
invariant-loop-at l = Turned l.depths l.d l.text l.words l.keys l.at l.k × (length l.keys ≡ most_lines) × (length l.words ≡ most_lines)

abbrev pub decreases-loop-at : goal.decreases-loop-at
decreases-loop-at l = length l.text - l.at
