-- The buffers that a workspace lends. Assumes nothing.
use Rattle.std.specs.Prelude.{◌≡◌, length}
use Rattle.counter_stream.specs.declared.workspace.Workspace.{Workspace}
use Rattle.counter_stream.specs.Fitness.{Lent, lent}

-- what they hold
abbrev pub lent_by : Workspace → Lent
lent_by w = lent w.line.now w.parents.now w.table.now w.space.now

-- the same buffers are lent as before, each of its length
pub record SameLoan (w v : Workspace) : Type 0 where
  pub line : v.line.ghost_name ≡ w.line.ghost_name
  pub parents : v.parents.ghost_name ≡ w.parents.ghost_name
  pub table : v.table.ghost_name ≡ w.table.ghost_name
  pub space : v.space.ghost_name ≡ w.space.ghost_name
  pub line_length : length v.line.now ≡ length w.line.now
  pub parents_length : length v.parents.now ≡ length w.parents.now
  pub table_length : length v.table.now ≡ length w.table.now
  pub space_length : length v.space.now ≡ length w.space.now
