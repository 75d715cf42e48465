-- The invariant of `rows`: the rows so far are the shape's. Assumes nothing.
use Rattle.std.proofs.Common.{◌≡◌, ℕ, ◌<◌, [], length, get_or}
use Rattle.base.specs.Limits.{group_limit}
use Rattle.shapes.specs.Climbs.{row_of}
use Rattle.shapes.proofs.rows.Given as goal

abbrev pub invariant-loop-local : goal.invariant-loop-local
invariant-loop-local l = (length l.cells-items ≡ 7) × ((j : ℕ) → j < l.local → get_or l.cells-items j [] ≡ row_of group_limit l.shape j)
