-- `listing::read_lines` meets its contract. Assumes nothing.
use mathlib.Core.Path.{refl, subst}
use Prim.Native.Nat.{◌+◌}
use native.Mathlib.Omega.{arith}
use borrow.Author.Rules.{rules}
use Rattle.sheets.specs.Listings.{LineRead}
use Rattle.sheets.proofs.listing.Turns.{turn-none, turn_end, turn-bad, turn_more}
use Rattle.sheets.proofs.listing.read_lines.Goals as goal

pub returns-in_default : goal.returns-in_default
returns-in_default c =
    (c.loop-at.k + 1, refl, turn-bad _ _ _ _ _ _ _ c.loop-at.invariant.0 c.loop-at-test.true (subst (LineRead _ _ _ _ _ _ _ _ _) c.in_default.is c.read_line.ensures))

pub loop-at-smaller : goal.loop-at-smaller
loop-at-smaller c =
    let r = subst (LineRead _ _ _ _ _ _ _ _ _) c.in-Some.is c.read_line.ensures in
    omega (arith, r.1.behind, r.1.within, r.1.found.behind)

pub loop-at-preserved : goal.loop-at-preserved
loop-at-preserved c =
    let r = subst (LineRead _ _ _ _ _ _ _ _ _) c.in-Some.is c.read_line.ensures in
    (turn_more _ _ _ _ _ _ _ c.loop-at.invariant.0 r.0 _ r.1 _ _ r.2, search rules, search rules)

pub returns : goal.returns
returns c =
    let s = c.loop-at.invariant.0 in
    (s.bands, turn_end _ _ _ _ _ _ _ s (omega arith), s.many, s.few, s.stored)

pub loop-at-init : goal.loop-at-init
loop-at-init c = (turn-none _ _ _ _ _, c.requires.1, c.requires.2)
