-- `walk::walk` meets its contract. What is written and what the pending chains give is the preorder. Assumes nothing.
use mathlib.Core.Path.{◌≡◌}
use mathlib.Core.List.{◌∷◌}
use Prim.Native.Nat.{◌+◌, ◌*◌, ◌-◌, ◌≤◌}
use lib.ListN.{length}
use Rattle.base.specs.Lists.{view}
use Rattle.judge.proofs.walk.Stack.{Walked}
use Rattle.judge.proofs.walk.walk.Given as goal

abbrev pub invariant-loop-cur : goal.invariant-loop-cur
invariant-loop-cur l =
    record {
      size : l.n ≡ length l.parents;
      within : l.count ≤ l.n;
      low : l.sp ≤ l.n;
      high : l.n ≤ l.sp + l.count;
      walked : Walked l.parents (view 0 l.count l.order) (view 0 l.count l.depths) (l.cur.0 ∷ view l.sp (length l.parents - l.sp) l.pending);
    }

abbrev pub decreases-loop-cur : goal.decreases-loop-cur
decreases-loop-cur l = 2 * (l.n - l.count) + (l.n - l.sp)
