-- `sweeping::sweep` meets its contract. Assumes nothing.
use Rattle.sheets.proofs.sweeping.Classes.{Sweeping}
use Rattle.sheets.proofs.sweeping.sweep.Given as goal

abbrev pub invariant-loop-place : goal.invariant-loop-place
invariant-loop-place l = Sweeping l.words l.keys l.class.0 l.place l.next
