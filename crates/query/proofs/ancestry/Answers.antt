-- `ancestry` meets its contract. Assumes nothing.
use Rattle.std.proofs.Common.{lit≤}
use Rattle.answers.specs.Steps.{ancestry}
use Rattle.answers.proofs.Bounds.{ancestry-within}
use Rattle.answers.proofs.Numbers.{ancestry-numbers}
use Rattle.climbs.proofs.Questions.{ancestry-right}
use Rattle.query.proofs.Promises.{promised}
use Rattle.query.proofs.ancestry.Goals as goal

pub returns : goal.returns
returns c =
    let args = c.args in let all = promised _ (λ len. ancestry len args.u.0 args.v.0) _ _ _ (λ len. ancestry-within len _ _) (λ len. ancestry-numbers len _ _) _ (λ ps d. ancestry-right ps _ d args.u.0 args.v.0) (lit≤ tt) c.at_or_above.ensures in record { answer = all.0; numbers = all.1.0; few = all.1.1.0; local = all.1.1.1.0; right = all.1.1.1.1 }
