-- `listing::read_line` meets its contract. Assumes nothing.
use mathlib.Core.Path.{sym, ◌∙◌, ap}
use mathlib.Core.Bool.{not}
use native.Mathlib.Omega.{arith}
use Rattle.bands.proofs.Tests.{band-says, class-says}
use Rattle.sheets.proofs.listing.Turns.{read_past, read-other, read-bad, read-good}
use Rattle.sheets.proofs.listing.read_line.Goals as goal

pub returns-then-k-ge-MOST_LINES : goal.returns-then-k-ge-MOST_LINES
returns-then-k-ge-MOST_LINES c = read_past _ _ _ _ _ (omega arith)

pub returns-in_err-band : goal.returns-in_err-band
returns-in_err-band c = rw c.from_residual.ensures (read-other _ _ _ _ _ (omega arith) c.in_err-band.ensures)

pub returns-then-not-is_band : goal.returns-then-not-is_band
returns-then-not-is_band c =
    read-bad _ _ _ _ _ (omega arith) _ _ c.in_ok-band.ensures c.is_band.result c.is_band.ensures (ap not c.if-not-is_band.true)

pub lay-requires : goal.lay-requires
lay-requires c =
    let p = c.requires in
    let s = band-says _ _ _ (sym c.is_band.ensures ∙ c.if-not-is_band.false) in
    (omega (arith, c.if-k-ge-MOST_LINES.false, p.1), omega (arith, c.if-k-ge-MOST_LINES.false, p.2), omega (arith, p.0), omega (arith, p.0, (class-says _ _ _ s.class).0), s.ordered, s.within, s.limit)

pub returns : goal.returns
returns c = (
  _,
  read-good _ _ _ _ _ (omega arith) _ _ c.in_ok-band.ensures c.is_band.result c.is_band.ensures (ap not c.if-not-is_band.false),
  c.lay.ensures,
)
