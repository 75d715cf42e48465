-- `jump::from_jump` meets its contract. Assumes nothing.
use Rattle.std.proofs.Common.{◌<◌, ◌≤◌, arith}
use Rattle.base.specs.Limits.{jump_room}
use Rattle.answers.specs.Steps.{from_jump}
use Rattle.query.proofs.Programs.{steps}
use Rattle.query.proofs.jump.from_jump.Goals as goal

pub returns-then-jump_room-jump : goal.returns-then-jump_room-jump
unfolding from_jump
returns-then-jump_room-jump c =
    let s = c.args in let h : jump_room s.asked.table.n ≤ s.jump = omega (arith, c.jump_room.ensures) in rw (← c.new-cells.ensures) (search steps)

pub returns : goal.returns
unfolding from_jump
returns c = let s = c.args in let h : s.jump < jump_room s.asked.table.n = omega (arith, c.jump_room.ensures) in rw (← c.new-cells.ensures) (search steps)
