-- `jumps::ancestors_end` meets its contract. Assumes nothing.
use mathlib.Core.Path.{sym}
use mathlib.Core.Option.{Option-elim}
use Rattle.prepare.specs.Arrays.{ancestors_end}
use Rattle.prepare.proofs.jumps.ancestors_end.Goals as goal

pub returns-in-Some : goal.returns-in-Some
unfolding ancestors_end Option-elim
returns-in-Some c = let e = sym c.in-Some.ensures.answer in rw e

pub returns-in-None : goal.returns-in-None
unfolding ancestors_end Option-elim
returns-in-None c = let e = sym c.in-None.ensures.answer in rw e
