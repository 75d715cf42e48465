-- `branch` meets its contract. Assumes nothing.
use Rattle.std.proofs.Common.{lit≤}
use Rattle.answers.specs.Steps.{branch}
use Rattle.answers.proofs.Bounds.{branch-within}
use Rattle.answers.proofs.Numbers.{branch-numbers}
use Rattle.climbs.proofs.Questions.{branch-right}
use Rattle.query.proofs.Promises.{promised}
use Rattle.query.proofs.branch.Goals as goal

pub returns : goal.returns
returns c =
    let args = c.args in let all = promised _ (λ len. branch len args.u.0 args.v.0) _ _ _ (λ len. branch-within len _ _) (λ len. branch-numbers len _ _) _ (λ ps d. branch-right ps _ d args.u.0 args.v.0) (lit≤ tt) c.child_towards.ensures in record { answer = all.0; numbers = all.1.0; few = all.1.1.0; local = all.1.1.1.0; right = all.1.1.1.1 }
