-- `admitted` meets its contract. Assumes nothing.
use Rattle.std.proofs.Common.{refl, sym, ◌∙◌}
use Rattle.std.proofs.lemmas.Result.{err_from_is_err_and}
use Rattle.common_ancestors.proofs.Replies.{admission-broken, admission-known, first-unknown, second-unknown, both-known, refusal-number}
use Rattle.common_ancestors.proofs.admitted.Goals as goal

pub returns-in_err-open-clause-answer : goal.returns-in_err-open-clause-answer
returns-in_err-open-clause-answer c =
    let p = err_from_is_err_and c.from_residual.result c.from_residual.ensures.1 in
    rw (p.1, p.2) (admission-broken _ _ _ _ c.in_err-open.ensures.answer (refusal-number _))

pub returns-then-open-u-clause-answer : goal.returns-then-open-u-clause-answer
returns-then-open-u-clause-answer c = sym (first-unknown _ _ _ _ c.if-open-u.true) ∙ admission-known _ _ _ _ c.in_ok-open.ensures.answer refl

pub returns-then-open-v-clause-answer : goal.returns-then-open-v-clause-answer
returns-then-open-v-clause-answer c = sym (second-unknown _ _ _ _ c.if-open-u.false c.if-open-v.true) ∙ admission-known _ _ _ _ c.in_ok-open.ensures.answer refl

pub returns-clause-answer : goal.returns-clause-answer
returns-clause-answer c = sym (both-known _ _ _ _ c.if-open-u.false c.if-open-v.false) ∙ admission-known _ _ _ _ c.in_ok-open.ensures.answer refl
