-- `finding::below` meets its contract. Assumes nothing.
use Prim.Native.Nat.{◌+◌, ◌≤◌}
use lib.ListN.{length}
use Rattle.sorting.specs.Orders.{Ascending}
use Rattle.sheets.specs.Parts.{Low}
use Rattle.sheets.proofs.finding.Halving.{Bracket}
use Rattle.sheets.proofs.finding.below.Given as goal

abbrev pub invariant-loop-size : goal.invariant-loop-size
invariant-loop-size l = (1 ≤ l.size) × (l.low + l.size ≤ length l.keys) × (Ascending l.keys → Low l.keys → Bracket l.keys l.x l.low (l.low + l.size))

abbrev pub decreases-loop-size : goal.decreases-loop-size
decreases-loop-size l = l.size
