-- `finding::range_of` meets its contract. Assumes nothing.
use mathlib.Core.Path.{◌∙◌}
use native.Mathlib.Omega.{arith}
use Rattle.sheets.proofs.finding.Ranges.{range_other, range-short, range-over, range-as}
use Rattle.sheets.proofs.finding.range_of.Goals as goal

pub returns-then-class_of-wanted : goal.returns-then-class_of-wanted
returns-then-class_of-wanted c = (range_other _ _ _ _ (λ e. c.if-class_of-wanted.true (c.class_of.ensures ∙ e)), tt)

pub returns-then-to-amount : goal.returns-then-to-amount
returns-then-to-amount c = (range-short _ _ _ _ (omega arith), tt)

pub returns-then-rate-gt-MOST_RATE : goal.returns-then-rate-gt-MOST_RATE
returns-then-rate-gt-MOST_RATE c = (range-over _ _ _ _ (omega arith), tt)

pub returns : goal.returns
returns c = (range-as _ _ _ _ _ _ _ c.from_of.ensures (omega arith) (omega arith) (omega arith) (omega arith) (omega arith), omega arith)
