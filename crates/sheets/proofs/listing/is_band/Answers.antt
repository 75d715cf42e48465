-- `listing::is_band` meets its contract. Assumes nothing.
use mathlib.Core.Path.{sym, ◌∙◌}
use native.Mathlib.Omega.{arith}
use Rattle.sheets.proofs.listing.Tests.{past-entries, not_covered, falling, past-amounts, but-rate}
use Rattle.sheets.proofs.listing.is_band.Goals as goal

pub returns-then-depths-at : goal.returns-then-depths-at
returns-then-depths-at c = past-entries _ _ _ _ _ _ c.if-depths-at.true

pub returns-then-not-is_covered : goal.returns-then-not-is_covered
returns-then-not-is_covered c = not_covered _ _ _ _ _ _ (sym c.is_covered.ensures ∙ c.if-not-is_covered.true)

pub returns-then-band : goal.returns-then-band
returns-then-band c = falling _ _ _ _ _ _ c.if-band.true

pub returns-then-band-gt-MOST_SUM : goal.returns-then-band-gt-MOST_SUM
returns-then-band-gt-MOST_SUM c = past-amounts _ _ _ _ _ _ c.if-band-gt-MOST_SUM.true

pub returns : goal.returns
returns c = but-rate _ _ _ _ _ _ (omega arith) (sym c.is_covered.ensures ∙ c.if-not-is_covered.false) (omega arith) (omega arith)
