-- `records::fill_record` meets its contract. Assumes nothing.
use mathlib.Core.Path.{refl, ◌∙◌}
use Prim.Native.Nat.{◌+◌, ◌*◌}
use native.Mathlib.Omega.{arith}
use lib.ListN.{length}
use Rattle.base.specs.Limits.{group_limit, record_words}
use Rattle.base.proofs.Puts.{lent_back, lent}
use Rattle.climbs.proofs.RecordWords.{jump-wide}
use Rattle.prepare.proofs.records.Rows.{record-depth}
use Rattle.prepare.proofs.records.fill_record.Goals as goal

pub record-words-requires : goal.record-words-requires
record-words-requires c =
    let n = length c.args.parents.now in
    let t = c.args.table.now in
    let p = c.args.from.ladpos in
    let l = c.args.from.ladders in
    let r = c.requires.0 in
    (r.one, lent p (p + n) n t _ refl r.places, lent l (l + 2 * n) (2 * n) t _ refl r.rungs, c.requires.1, record-depth r c.args.v.0 c.requires.1)

pub returns : goal.returns
returns c =
    record { filled = lent_back c.args.at (c.args.at + record_words) c.args.table.now _ _ (c.copy_from_slice.ensures.after ∙ c.record-words.ensures) (omega (arith, jump-wide group_limit c.args.parents.now c.args.v.0)) }
