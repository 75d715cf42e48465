-- `laying::rise` meets its contract: the nearest ancestors are written from the place down to `cell`. Assumes nothing.
use Prim.Native.Nat.{◌-◌, ◌≤◌}
use Rattle.prepare.specs.Arrays.{entry_at, Risen}
use Rattle.prepare.proofs.laying.Rungs.{Climbed}
use Rattle.prepare.proofs.laying.rise.Given as goal

abbrev pub invariant-loop-cell : goal.invariant-loop-cell
invariant-loop-cell l =
    record {
      low : l.place - l.count ≤ l.cell;
      climbed : Climbed l.tree.parents.now (entry_at l.tree.parents.now l.initial.at.0) (l.place - l.cell) l.at.0;
      risen : Risen l.tree.parents.now (entry_at l.tree.parents.now l.initial.at.0) l.place (l.place - l.cell) l.initial.cells l.cells;
    }
