-- `rounding::nearest` meets its contract. Assumes nothing.
use borrow.Author.Tests.{lt-ltb, le-ltb}
use Rattle.money.specs.Premium.{nearest, half_rule}
use Rattle.money.proofs.rounding.nearest.Goals as goal

pub returns-then-twice-lt-CENT_PARTS : goal.returns-then-twice-lt-CENT_PARTS
unfolding nearest half_rule
returns-then-twice-lt-CENT_PARTS c = simp (lt-ltb _ _ c.if-twice-lt-CENT_PARTS.true)

pub returns-then-twice-gt-CENT_PARTS : goal.returns-then-twice-gt-CENT_PARTS
unfolding nearest half_rule
returns-then-twice-gt-CENT_PARTS c = simp (le-ltb _ _ c.if-twice-lt-CENT_PARTS.false, lt-ltb _ _ c.if-twice-gt-CENT_PARTS.true)

pub returns : goal.returns
unfolding nearest half_rule
returns c = simp (le-ltb _ _ c.if-twice-lt-CENT_PARTS.false, le-ltb _ _ c.if-twice-gt-CENT_PARTS.false)
