-- `finding::find` meets its contract. Assumes nothing.
use mathlib.Core.Path.{◌≡◌}
use Prim.Native.Nat.{◌+◌, ◌-◌}
use native.Mathlib.Omega.{arith}
use Rattle.base.specs.Lists.{view}
use Rattle.sheets.specs.Parts.{found_band}
use Rattle.sheets.proofs.finding.Parts.{checked-band}
use Rattle.sheets.proofs.finding.find.Goals as goal

pub returns : goal.returns
unfolding view
returns c =
    let m = c.stated_lines-m.result in
    let e : 1 + m - 1 ≡ m = omega arith in record { found = checked-band c.args.sheet.now c.args.class.0 c.args.amount m c.stated_lines-m.ensures.0 (found_band c.args.class.0 c.band_in.result) (rw e at c.band_in.ensures.found); limit = c.band_in.ensures.limit }
