-- `trial::is_above` meets its contract. Assumes nothing.
use Rattle.answers.specs.Answers.{outcome}
use Rattle.common_ancestors.proofs.Trials.{ancestry-known, ancestry-tells}
use Rattle.common_ancestors.proofs.trial.is_above.Goals as goal

pub returns-then-relation-eq-ACCEPTED : goal.returns-then-relation-eq-ACCEPTED
returns-then-relation-eq-ACCEPTED c =
    let relation = c.ancestry-relation in
    λ ps of hw hb. ancestry-tells ps _ _ of _ _ (outcome relation.result) hw hb (relation.ensures.right ps of.prepared)

pub returns-else-relation-eq-ACCEPTED : goal.returns-else-relation-eq-ACCEPTED
returns-else-relation-eq-ACCEPTED c =
    let relation = c.ancestry-relation in
    λ ps of hw hb. absurd (c.if-relation-eq-ACCEPTED.false (ancestry-known ps _ _ of _ _ (outcome relation.result) hw hb (relation.ensures.right ps of.prepared)))
