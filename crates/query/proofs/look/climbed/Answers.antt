-- `look::climbed` meets its contract. Assumes nothing.
use Rattle.std.proofs.Common.{◌≡◌, ◌≤◌, None, refl, arith, rules}
use Rattle.query.proofs.Programs.{written, ends}
use Rattle.query.proofs.look.Lookups.{own, onward}
use Rattle.query.proofs.look.climbed.Goals as goal

pub returns-in_default : goal.returns-in_default
returns-in_default c =
    let none : c.args.climbs ≡ None = search rules in
    written _ _ _ c.end.ensures (rw (c.answer.ensures, c.first_two.ensures, none) (ends _ _ _ _ refl))

pub returns-then-climbs-eq0 : goal.returns-then-climbs-eq0
returns-then-climbs-eq0 c =
    written _ _ _ c.end-then-climbs-eq0.ensures (rw (c.answer-then-climbs-eq0.ensures, c.first_two-then-climbs-eq0.ensures, c.in-Some.is) (own _ _ _ _ _ _ (omega (arith, c.if-climbs-eq0.true))))

pub returns : goal.returns
returns c =
    let few : c.in-Some.climbs ≤ c.args.entry.depth = rw c.in-Some.is at c.requires in
    rw c.in-Some.is (written _ _ _ c.above.ensures (onward _ _ _ _ _ _ _ _ (omega (arith, c.if-climbs-eq0.false)) (omega arith) (omega arith)))
