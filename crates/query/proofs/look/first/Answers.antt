-- `look::first` meets its contract. Assumes nothing.
use Rattle.std.proofs.Common.{le-ltb, lt-ltb}
use Rattle.query.specs.Parts.{first_of}
use Rattle.query.proofs.look.first.Goals as goal

pub returns-then-len-lt-HEADER : goal.returns-then-len-lt-HEADER
unfolding first_of
returns-then-len-lt-HEADER c = rw c.new-cells.ensures (simp (lt-ltb _ _ c.if-len-lt-HEADER.true))

pub returns : goal.returns
unfolding first_of
returns c = rw (c.push.ensures, c.new-cells.ensures) (simp (le-ltb _ _ c.if-len-lt-HEADER.false))
