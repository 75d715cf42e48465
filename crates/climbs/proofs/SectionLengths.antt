-- LADDERS, GROUPS and JUMPS fill their cells, with the zeros behind. Assumes nothing.
use mathlib.Core.Path.{◌≡◌}
use mathlib.Core.List.{List}
use Prim.Native.Nat.{ℕ, ◌*◌, ◌≤◌}
use native.Mathlib.Omega.{arith}
use lib.ListN.{length}
use Rattle.base.specs.Limits.{top_mark, group_limit, record_words, jump_room}
use Rattle.base.proofs.Joins.{padded-length}
use Rattle.tree.specs.Faults.{Tree}
use Rattle.table.specs.Table.{ladder_cells, group_cells, jump_cells}
use Rattle.climbs.proofs.Room.{ladders-fit}
use Rattle.climbs.proofs.Groups.{groups-few}
use Rattle.climbs.proofs.Jumps.{jumps-few}
use Rattle.climbs.proofs.RecordWords.{groups-length, jumps-length}

module _ (ps : List ℕ) (small : length ps ≤ top_mark) (tree : Tree ps) where
  pub ladder-cells-length : length (ladder_cells ps) ≡ 2 * length ps
  ladder-cells-length = padded-length (2 * length ps) _ (ladders-fit ps small tree)

  pub group-cells-length : length (group_cells ps) ≡ 3 * length ps
  group-cells-length = padded-length (3 * length ps) _ (omega (arith, groups-length group_limit ps, groups-few ps small tree group_limit))

  pub jump-cells-length : length (jump_cells ps) ≡ record_words * jump_room (length ps)
  jump-cells-length = padded-length (record_words * jump_room (length ps)) _ (omega (arith, jumps-length group_limit ps, jumps-few ps small tree group_limit))
