-- `look::after_kind` meets its contract. Assumes nothing.
use Rattle.std.proofs.Common.{refl, rules}
use Rattle.answers.specs.Steps.{after_kind}
use Rattle.query.proofs.joining.Joins.{jump_goes}
use Rattle.query.proofs.joining.Recounts.{jump-cells}
use Rattle.query.proofs.Programs.{steps, written, le-no}
use Rattle.query.proofs.look.after_kind.Goals as goal

pub returns-then-kind-ge-MICRO_MARK : goal.returns-then-kind-ge-MICRO_MARK
unfolding after_kind
returns-then-kind-ge-MICRO_MARK c = search steps

pub with_jump-requires : goal.with_jump-requires
with_jump-requires c = let cells = jump-cells _ _ _ _ _ c.from_jump-a.ensures in search (rules, cells)

pub returns : goal.returns
unfolding after_kind
returns c = written _ _ _ c.end.ensures (le-no _ _ _ _ _ _ _ c.if-kind-ge-MICRO_MARK.false (rw c.with_jump.ensures (jump_goes _ _ _ _ _ c.from_jump-a.ensures _ _ refl)))
