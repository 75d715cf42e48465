-- The invariant of `numbering::ranked`: the count stands where it should. Assumes nothing.
use Prim.Native.Nat.{◌+◌}
use Rattle.base.specs.Limits.{group_limit}
use Rattle.shapes.proofs.RankTurns.{Ranked}
use Rattle.shapes.proofs.numbering.ranked.Given as goal

abbrev pub invariant-loop-i : goal.invariant-loop-i
invariant-loop-i l = Ranked group_limit l.group l.sum l.at (l.i + 1)
