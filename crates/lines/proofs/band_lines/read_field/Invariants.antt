-- `band_lines::read_field` meets its contract: the loop has read so many digits from the place on. Assumes nothing.
use Rattle.lines.proofs.FieldReads.{Run}
use Rattle.lines.proofs.band_lines.read_field.Given as goal

abbrev pub invariant-loop-digits : goal.invariant-loop-digits
invariant-loop-digits l = Run l.text l.b-items l.end l.at l.digits l.value
