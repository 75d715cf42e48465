-- `sweeping::skip_eights` meets its contract. Assumes nothing.
use mathlib.Core.Path.{sym, ◌∙◌}
use native.Mathlib.Omega.{arith}
use Rattle.bands.proofs.Tests.{and_first, and_second}
use Rattle.sheets.proofs.sweeping.Searches.{pass-eight}
use Rattle.sheets.proofs.sweeping.skip_eights.Goals as goal

pub loop-i-preserved : goal.loop-i-preserved
loop-i-preserved c =
    let both = c.if-not-low-high.false in
    pass-eight _ _ _ _ (omega arith) (sym c.none_of_four-low.ensures ∙ and_first _ _ both) (sym c.none_of_four-high.ensures ∙ and_second c.none_of_four-low.result _ both) c.loop-i.invariant

pub loop-i-init : goal.loop-i-init
loop-i-init c = record { behind = omega arith; within = omega arith; others = λ v p q. absurd (omega arith) }

pub overflow_sub-depths : goal.overflow_sub-depths
overflow_sub-depths c = omega arith

pub returns-then-not-low-high : goal.returns-then-not-low-high
returns-then-not-low-high c = c.loop-i.invariant

pub loop-i-smaller : goal.loop-i-smaller
loop-i-smaller c = omega arith

pub returns : goal.returns
returns c = c.loop-i.invariant
