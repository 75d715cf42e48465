-- `branching::deeper` meets its contract. Assumes nothing.
use Rattle.answers.specs.Steps.{level, inside, deeper}
use Rattle.query.proofs.joining.Joins.{answer-held}
use Rattle.query.proofs.relate.Relations.{inner-goes}
use Rattle.query.proofs.Programs.{steps, le-no}
use Rattle.query.proofs.branching.deeper.Goals as goal

pub returns-then-table-depth : goal.returns-then-table-depth
unfolding deeper
returns-then-table-depth c = search steps

pub with_ten-all-requires : goal.with_ten-all-requires
with_ten-all-requires c = let inner = c.level-inner.ensures in (answer-held _ _ _ inner.answer, inner.few)

pub returns-then-inner-eq-TOO_DEEP : goal.returns-then-inner-eq-TOO_DEEP
unfolding deeper inside
returns-then-inner-eq-TOO_DEEP c =
    le-no _ _ _ _ _ _ _ c.if-table-depth.false
    (inner-goes _ _ _ (level _ _ _) inside c.level-inner.result c.with_ten-all.result c.level-inner.ensures.answer c.with_ten-all.ensures (search steps))

pub returns : goal.returns
unfolding deeper inside
returns c =
    le-no _ _ _ _ _ _ _ c.if-table-depth.false
    (inner-goes _ _ _ (level _ _ _) inside c.level-inner.result c.with_ten-all.result c.level-inner.ensures.answer c.with_ten-all.ensures (search steps))
