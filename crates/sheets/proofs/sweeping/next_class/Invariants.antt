-- `sweeping::next_class` meets its contract. Assumes nothing.
use Rattle.sheets.specs.Parts.{NoClass}
use Rattle.sheets.proofs.sweeping.next_class.Given as goal

abbrev pub invariant-loop-i : goal.invariant-loop-i
invariant-loop-i l = NoClass l.depths l.d l.from l.i
