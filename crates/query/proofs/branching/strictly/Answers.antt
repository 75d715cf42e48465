-- `branching::strictly` meets its contract. Assumes nothing.
use Rattle.std.proofs.Common.{sym}
use Rattle.std.proofs.lemmas.Bool.{eqb-true, eqb-false}
use Rattle.answers.specs.Steps.{strictly}
use Rattle.query.proofs.Programs.{steps, eq_yes, eq_no}
use Rattle.query.proofs.branching.strictly.Goals as goal

pub returns-then-eq : goal.returns-then-eq
unfolding strictly
returns-then-eq c = eq_yes _ _ _ _ _ _ _ (eqb-true _ _ (sym c.if-eq.ensures)) (search steps)

pub returns : goal.returns
unfolding strictly
returns c = eq_no _ _ _ _ _ _ _ (eqb-false _ _ (sym c.if-eq.ensures)) (search steps)
