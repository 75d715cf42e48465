-- `kinds::kinds` meets its contract: the loop has numbered the entries at the positions before the next, counted their groups, of which the last ends at `end`, and the jump
-- entries before the last position of a size over 7. Assumes nothing.
use mathlib.Core.Path.{◌≡◌}
use mathlib.Core.List.{List}
use Prim.Native.Nat.{ℕ, ◌≤◌}
use lib.ListN.{length}
use Rattle.base.specs.Limits.{most_entries, group_limit}
use Rattle.prepare.proofs.kinds.Turns.{KindsBefore}
use Rattle.prepare.proofs.kinds.kinds.Given as goal

-- the numbers of a turn
pub record Turn (parents order size : List ℕ) (i groups jumps : ℕ) : Type 0 where
  pub few : length parents ≤ most_entries
  pub sizes : length size ≡ length parents
  pub orders : length order ≡ length parents
  pub counted : groups ≤ i
  pub jumped : jumps ≤ i

abbrev pub invariant-loop-i : goal.invariant-loop-i
invariant-loop-i l = Turn l.tree.parents.now l.tree.order.now l.sizes l.i l.groups l.jumps × KindsBefore l.tree.parents.now group_limit l.i l.groups l.jumps l.root.0 l.end.0 l.last.0 l.cells
