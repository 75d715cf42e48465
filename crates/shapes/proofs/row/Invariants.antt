-- The invariant of `row`: the cells so far are the field's. Assumes nothing.
use Rattle.std.proofs.Common.{◌≡◌, ℕ, ◌<◌, length, get_or}
use Rattle.shapes.specs.Packed.{cell_in}
use Rattle.shapes.proofs.row.Given as goal

abbrev pub invariant-loop-k : goal.invariant-loop-k
invariant-loop-k l = (length l.cell-items ≡ 7) × ((j : ℕ) → j < l.k → get_or l.cell-items j 0 ≡ cell_in l.climbs.0 j)
