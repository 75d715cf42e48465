-- Behind the commas that are left from a place stands what is asked. Assumes nothing.
use Rattle.std.proofs.Common.{◌≡◌, drop}
use Rattle.samples.specs.Fields.{behind_commas}
use Rattle.samples.proofs.fields.behind.Given as goal

abbrev pub invariant-loop-i : goal.invariant-loop-i
invariant-loop-i l = behind_commas l.left (drop l.i l.text) ≡ behind_commas l.commas (drop l.start l.text)
