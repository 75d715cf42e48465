-- `whole_lines::whole_line` meets its contract. Assumes nothing.
use Rattle.std.proofs.Common.{[]}
use Rattle.lines.specs.Stages.{on_line}
use Rattle.counter_stream.proofs.whole_lines.LineEnds.{ends-turn}
use Rattle.counter_stream.proofs.whole_lines.whole_line.Goals as goal

pub returns-in-AtEnd-clause-turned : goal.returns-in-AtEnd-clause-turned
unfolding on_line
returns-in-AtEnd-clause-turned c = rw (c.in-AtEnd.is, c.last.ensures) (ends-turn _ _ _ [] c.new.ensures)
