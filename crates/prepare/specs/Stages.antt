-- What stands in the working space before the table is filled, and in the table while it is.
-- Assumes nothing.
use Rattle.std.specs.Prelude.{◌≡◌, List, ℕ, ◌+◌, ◌*◌, ◌≤◌, length}
use Rattle.base.specs.Lists.{below, view}
use Rattle.base.specs.Limits.{space_words, depth_start, kind_start, ladpos_start, order_start, pre_start, size_start, ladders_start, groups_start}
use Rattle.tree.specs.Parents.{depth}
use Rattle.tree.specs.Forest.{size, order, position}
use Rattle.table.specs.Ladders.{lad_pos}
use Rattle.table.specs.Table.{ladder_cells, group_cells}
use Rattle.prepare.specs.Arrays.{OneTree, depths_of, kinds_of}

-- regions 0 and 1: the preorder and the depths of a list that forms one tree
pub record Walked (ps space : List ℕ) : Type 0 where
  pub one : OneTree ps
  pub room : length space ≡ space_words (length ps)
  pub orders : view 0 (length ps) space ≡ order ps
  pub depths : view (length ps) (length ps) space ≡ depths_of ps

-- KIND, SIZE and GROUPS
pub record Familied (ps table : List ℕ) : Type 0 where
  pub kinds : view (kind_start (length ps)) (length ps) table ≡ kinds_of ps
  pub sizes : view (size_start (length ps)) (length ps) table ≡ below (length ps) (size ps)
  pub groups : view (groups_start (length ps)) (3 * length ps) table ≡ group_cells ps

-- LADPOS and LADDERS
pub record Laddered (ps table : List ℕ) : Type 0 where
  pub places : view (ladpos_start (length ps)) (length ps) table ≡ below (length ps) (lad_pos ps)
  pub rungs : view (ladders_start (length ps)) (2 * length ps) table ≡ ladder_cells ps

-- the sections between the header and JUMPS
pub record Sectioned (ps table : List ℕ) : Type 0 where
  pub families : Familied ps table
  pub paths : Laddered ps table
  pub depths : view (depth_start (length ps)) (length ps) table ≡ below (length ps) (depth ps)
  pub orders : view (order_start (length ps)) (length ps) table ≡ order ps
  pub pres : view (pre_start (length ps)) (length ps) table ≡ below (length ps) (position ps)

-- DEPTH, LADPOS and LADDERS, each from some cell on, end before a cell
abbrev pub EndsBefore : List ℕ → ℕ → ℕ → ℕ → ℕ → Type 0
EndsBefore ps depth_at ladpos_at ladders_at cell = (depth_at + length ps ≤ cell) × (ladpos_at + length ps ≤ cell) × (ladders_at + 2 * length ps ≤ cell)

-- what a record is filled from: the words of these three, wherever in a table they stand
pub record Reached (ps : List ℕ) (depth_at ladpos_at ladders_at : ℕ) (table : List ℕ) : Type 0 where
  pub one : OneTree ps
  pub fits : EndsBefore ps depth_at ladpos_at ladders_at (length table)
  pub depths : view depth_at (length ps) table ≡ below (length ps) (depth ps)
  pub places : view ladpos_at (length ps) table ≡ below (length ps) (lad_pos ps)
  pub rungs : view ladders_at (2 * length ps) table ≡ ladder_cells ps
