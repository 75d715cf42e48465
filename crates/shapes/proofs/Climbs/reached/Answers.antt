-- `shapes::Climbs::reached` meets its contract. Assumes nothing.
use mathlib.Core.Path.{sym, ◌∙◌}
use native.Mathlib.Omega.{arith}
use Rattle.shapes.proofs.Fields.{past_row, no_row, own_row}
use Rattle.shapes.proofs.Climbs.reached.Goals as goal

pub returns-then-climbs-ge-GROUP_LIMIT : goal.returns-then-climbs-ge-GROUP_LIMIT
returns-then-climbs-ge-GROUP_LIMIT c = sym (past_row _ _ c.if-climbs-ge-GROUP_LIMIT.true)

pub returns-then-out-eq0 : goal.returns-then-out-eq0
returns-then-out-eq0 c = sym (no_row _ _ (sym c.out.ensures ∙ c.if-out-eq0.true))

pub returns : goal.returns
returns c = c.byte.ensures ∙ own_row _ _ _ (λ z. c.if-out-eq0.false (c.out.ensures ∙ z)) (omega arith) c.climbs_along.ensures
