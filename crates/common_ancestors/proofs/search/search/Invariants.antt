-- The invariant of `search::search`: fewer than `low` climbs are too few, `high` lead to `class`, which is at or above b, and k is at most half way.
-- The measure is how many may yet be tried. Assumes nothing.
use Prim.Native.Nat.{◌-◌}
use Rattle.common_ancestors.specs.Parts.{most_tries}
use Rattle.common_ancestors.proofs.Standing.{Stands, Narrows}
use Rattle.common_ancestors.proofs.search.search.Given as goal

abbrev pub invariant-loop-low : goal.invariant-loop-low
invariant-loop-low l = Narrows l.table.words.now l.table.n l.ends.first.0 l.ends.second.0 l.ends.depth l.low l.high l.class.0 × Stands l.table.n l.ends.depth l.low l.high l.class.0 l.k l.tries

abbrev pub decreases-loop-low : goal.decreases-loop-low
decreases-loop-low l = most_tries - l.tries
