-- `trial::tried` meets its contract. Assumes nothing.
use Rattle.std.proofs.Common.{ap, arith}
use Rattle.tree.proofs.Climbs.{up_in}
use Rattle.common_ancestors.proofs.Trials.{climb_reaches}
use Rattle.common_ancestors.proofs.trial.tried.Goals as goal
use Rattle.common_ancestors.proofs.trial.tried.Goals.{then-found-ne-ACCEPTED-via-then-found-ne-ACCEPTED, then-found-ne-ACCEPTED-via-else-found-ne-ACCEPTED+then-table-entry}

pub returns-then-found-ne-ACCEPTED-clause-right : goal.returns-then-found-ne-ACCEPTED-clause-right
returns-then-found-ne-ACCEPTED-clause-right c ps of hb x e =
    let reached = climb_reaches ps _ _ of _ _ x _ (c.climb-found.ensures.right ps of.prepared) e in
    elim c.then-found-ne-ACCEPTED.branch [
      | then-found-ne-ACCEPTED-via-then-found-ne-ACCEPTED w ↦ w.if-found-ne-ACCEPTED.true (ap (λ o. o.number) reached)
      | then-found-ne-ACCEPTED-via-else-found-ne-ACCEPTED+then-table-entry w ↦ omega (arith, w.if-table-entry.true, ap (λ o. o.word) reached, up_in ps _ _ x e, of.count)
    ]

pub returns-clause-right : goal.returns-clause-right
returns-clause-right c ps of hb x e =
    let entry = ap (λ o. o.word) (climb_reaches ps _ _ of _ _ x _ (c.climb-found.ensures.right ps of.prepared) e) in
    (entry, rw entry at (c.is_above.ensures ps of c.if-table-entry.false hb))
