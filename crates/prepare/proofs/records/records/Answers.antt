-- `records::records` meets its contract: the loop has laid the records of the entries gone over. Assumes nothing.
use native.Mathlib.Omega.{arith}
use Rattle.prepare.proofs.records.Rows.{rows_none, rows_next}
use Rattle.prepare.proofs.records.records.Goals as goal

pub loop-v-init : goal.loop-v-init
loop-v-init c = rows_none c.requires.2 c.requires.1 c.requires.0

pub loop-v-preserved : goal.loop-v-preserved
loop-v-preserved c =
    let f = c.fill_record in
    rows_next c.loop-v.invariant (omega arith) f.new.table f.ensures.filled f.auto.table
