-- `band_lines::read_band` meets its contract. Assumes nothing.
use Rattle.lines.proofs.BandLines.{band-class, band-from, band-to, band-rate, band-read}
use Rattle.lines.proofs.band_lines.read_band.Goals as goal

pub returns-in_err-class : goal.returns-in_err-class
returns-in_err-class c = rw c.from_residual.ensures (band-class _ _ c.in_err-class.ensures)

pub returns-in_err-from : goal.returns-in_err-from
returns-in_err-from c = rw c.from_residual-in_err-from.ensures (band-from _ _ _ _ c.in_ok-class.ensures c.in_err-from.ensures)

pub returns-in_err-to : goal.returns-in_err-to
returns-in_err-to c =
    rw c.from_residual-in_err-to.ensures (band-to _ _ _ _ c.in_ok-class.ensures _ _ c.in_ok-from.ensures c.in_err-to.ensures)

pub returns-in_err-rate : goal.returns-in_err-rate
returns-in_err-rate c =
    rw c.from_residual-in_err-rate.ensures
    (band-rate _ _ _ _ c.in_ok-class.ensures _ _ c.in_ok-from.ensures _ _ c.in_ok-to.ensures c.in_err-rate.ensures)

pub returns : goal.returns
returns c =
    band-read _ _ _ _ c.in_ok-class.ensures _ _ c.in_ok-from.ensures _ _ c.in_ok-to.ensures _ _ c.in_ok-rate.ensures
