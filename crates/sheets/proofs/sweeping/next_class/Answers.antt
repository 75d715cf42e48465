-- `sweeping::next_class` meets its contract. Assumes nothing.
use mathlib.Core.Path.{◌≡◌, sym, ◌∙◌}
use lib.ListN.{length}
use native.Mathlib.Omega.{arith}
use Rattle.bands.proofs.Tests.{class-is}
use Rattle.sheets.proofs.sweeping.Searches.{pass-one}
use Rattle.sheets.proofs.sweeping.next_class.Goals as goal

pub loop-i-init : goal.loop-i-init
loop-i-init c = c.skip_eights-i.ensures

pub returns-then-is_covered : goal.returns-then-is_covered
returns-then-is_covered c =
    record { none_before = c.loop-i.invariant; there = λ h. class-is _ _ _ h ∙ sym c.is_covered.ensures ∙ c.if-is_covered.true }

pub loop-i-preserved : goal.loop-i-preserved
loop-i-preserved c = pass-one _ _ _ _ c.loop-i.invariant (omega arith) (sym c.is_covered.ensures ∙ c.if-is_covered.false)

pub returns : goal.returns
returns c =
    let e : c.loop-i.i ≡ length c.args.depths.now = omega (arith, c.loop-i.invariant.within) in
    record { none_before = rw (← e) c.loop-i.invariant; there = λ h. absurd (omega (arith, h)) }
