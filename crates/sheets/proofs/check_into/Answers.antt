-- `check_into` meets its contract. Assumes nothing.
use Rattle.std.proofs.lemmas.Result.{err_from_is_err_and}
use Rattle.sheets.proofs.Checks.{check-broken, check-judged}
use Rattle.sheets.proofs.check_into.Goals as goal

pub returns-in_err-n-clause-answer : goal.returns-in_err-n-clause-answer
returns-in_err-n-clause-answer c =
    let p = err_from_is_err_and c.from_residual.result c.from_residual.ensures.1 in rw (p.1, p.2) (check-broken _ _ _ _ c.in_err-n.ensures.answer)

pub returns-clause-answer : goal.returns-clause-answer
returns-clause-answer c = (check-judged _ _ _ _ c.in_ok-n.ensures.answer _ _ _ c.judge_text.ensures).0

pub returns-clause-checked : goal.returns-clause-checked
returns-clause-checked c = (check-judged _ _ _ _ c.in_ok-n.ensures.answer _ _ _ c.judge_text.ensures).1.1
