-- `jumps::record` meets its contract: the words before e are the record's, and the next ancestor is s climbs above w. Assumes nothing.
use Rattle.prepare.proofs.jumps.Ancestors.{RecordBefore}
use Rattle.prepare.proofs.jumps.record.Given as goal

abbrev pub invariant-loop-e : goal.invariant-loop-e
invariant-loop-e l = RecordBefore l.parents l.initial.w.0 l.r l.w.0 l.s l.t l.e
