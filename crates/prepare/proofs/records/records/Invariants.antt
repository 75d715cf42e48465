-- `records::records` meets its contract: the loop has laid the records of the first i entries. Assumes nothing.
use Rattle.prepare.proofs.records.Rows.{RowsBefore}
use Rattle.prepare.proofs.records.records.Given as goal

abbrev pub invariant-loop-v : goal.invariant-loop-v
invariant-loop-v l = RowsBefore l.parents l.from.depths l.from.ladpos l.from.ladders l.first l.nodes l.initial.table l.table l.at l.v-index
