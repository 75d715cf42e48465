-- `grouping::groups` meets its contract: the words of the groups among the positions before the next, which end there or before, are laid end to end,
-- and the words behind the last are then set to 0. Assumes nothing.
use mathlib.Core.Path.{◌≡◌}
use mathlib.Core.List.{List}
use Prim.Native.Nat.{ℕ, ◌*◌, ◌-◌, ◌≤◌}
use lib.ListN.{length}
use Rattle.base.specs.Limits.{most_entries}
use Rattle.prepare.proofs.grouping.Turns.{GroupsBefore}
use Rattle.prepare.proofs.grouping.groups.Given as goal

-- the numbers of a turn
pub record Turn (parents size cells : List ℕ) (cell next : ℕ) : Type 0 where
  pub few : length parents ≤ most_entries
  pub sizes : length size ≡ length parents
  pub room : length cells ≡ 3 * length parents
  pub used : cell ≤ 3 * next

abbrev pub invariant-loop-next : goal.invariant-loop-next
invariant-loop-next l =
    record {
      within : l.next.0 ≤ length l.sizes;
      turn : Turn l.tree.parents.now l.sizes l.cells l.cell l.next.0;
      groups : GroupsBefore l.tree.parents.now l.initial.cells l.next.0 l.cell l.cells;
    }

abbrev pub decreases-loop-next : goal.decreases-loop-next
decreases-loop-next l = length l.sizes - l.next.0
