-- `keys::lay` meets its contract. Assumes nothing.
use Rattle.sheets.proofs.keys.Storing.{stored_more}
use Rattle.sheets.proofs.keys.lay.Goals as goal

pub returns : goal.returns
returns c =
    let a = c.args in
    let p = c.requires in
    stored_more a.words.now a.keys.now a.at a.band.class.0 a.band.from a.band.to a.band.rate p.0 p.1 p.2 p.3 p.4 p.5 p.6
