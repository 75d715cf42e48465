-- `whole_lines::parent_line` meets its contract. Assumes nothing.
use Rattle.std.proofs.Common.{arith}
use Rattle.counter_stream.specs.Loans.{lent_by}
use Rattle.counter_stream.proofs.Fitness.{parent-fits}
use Rattle.counter_stream.proofs.whole_lines.LineEnds.{parent-bad, parent-fine}
use Rattle.counter_stream.proofs.whole_lines.parent_line.Goals as goal

pub returns-in_default-clause-turned : goal.returns-in_default-clause-turned
returns-in_default-clause-turned c =
    rw c.last.ensures (parent-bad c.args.state (lent_by c.args.workspace.now) _ _ _ _ c.requires.phase c.in_default.ensures c.bad_line.ensures)

pub returns-clause-turned : goal.returns-clause-turned
returns-clause-turned c =
    let f = parent-fits _ _ c.requires.phase c.requires.due.fits in
    parent-fine c.args.state (lent_by c.args.workspace.now) _ _ _ _ c.requires.phase _ _ c.in-Some.ensures (omega (arith, f.0, f.1, c.requires.due.room.listed)) c.list_so_far.ensures.turned
