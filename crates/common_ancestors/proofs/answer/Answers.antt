-- `answer` meets its contract. Assumes nothing.
use Rattle.std.proofs.lemmas.Result.{err_from_is_err_and}
use Rattle.std.proofs.Common.{ℕ, List, refl, inl, inr}
use Rattle.base.specs.Numbers.{accepted, broken}
use Rattle.table.specs.Preparing.{Prepared}
use Rattle.common_ancestors.specs.Parts.{bound, chosen, Between}
use Rattle.common_ancestors.proofs.Replies.{refused-enters, refused-right, refused-known, passed-enters, table_of, enters-numbers, answered-right, chosen-bound, chosen-answered, refusal-number}
use Rattle.common_ancestors.proofs.answer.Goals as goal

pub returns-in_err-open : goal.returns-in_err-open
returns-in_err-open c =
    let p = err_from_is_err_and c.from_residual.result c.from_residual.ensures.1 in
    let sought = c.args.sought in
    let answer = c.in_err-open.ensures.answer in
    let turned = refusal-number _ in
    let enters = refused-enters _ _ _ _ answer turned (bound sought) in
    rw (p.1, p.2) (record {
      any = enters;
      numbers = enters-numbers (bound sought) _ _ _ _ enters;
      right = λ ps q. refused-right _ _ _ _ answer turned sought ps q;
      known = λ ps q hu hv. absurd (refused-known _ _ _ _ answer turned ps q hu hv);
    })

-- two entries of a prepared table share one
pub returns-in_default : goal.returns-in_default
returns-in_default c =
    let sought = c.args.sought in
    let step = c.in_ok-open.ensures in
    let enters = passed-enters _ _ _ _ step.answer refl (bound sought) broken (inr refl) in
    let found : (ps : List ℕ) → Prepared ps _ → ⊥ = λ ps p. let of = (table_of _ _ _ _ step.answer refl ps p).0 in rw c.in_default.is at (c.nearest-found.ensures.right ps (rw step.known.0 of)) in
    record { any = enters; numbers = enters-numbers (bound sought) _ _ _ _ enters; right = λ ps p. absurd (found ps p); known = λ ps p hu hv. absurd (found ps p) }

pub returns : goal.returns
returns c =
    let sought = c.args.sought in
    let step = c.in_ok-open.ensures in
    let r = c.in-Some.shared in
    let (class, climbs) = rw c.in-Some.is at c.nearest-found.ensures.settled in
    let enters = passed-enters _ _ _ _ step.answer refl (bound sought) (accepted (chosen sought r.class.0 r.climbs)) (inl (refl, chosen-bound sought _ _ _ class climbs)) in
    let between : (ps : List ℕ) → Prepared ps _ → Between ps _ _ r = λ ps p. let of = (table_of _ _ _ _ step.answer refl ps p).0 in rw c.in-Some.is at (c.nearest-found.ensures.right ps (rw step.known.0 of)) in
    rw c.chosen.ensures (record {
      any = enters;
      numbers = enters-numbers (bound sought) _ _ _ _ enters;
      right = λ ps p. let of = table_of _ _ _ _ step.answer refl ps p in answered-right ps _ p _ _ of.1 of.2 sought _ (chosen-answered sought ps _ _ r (between ps p));
      known = λ ps p hu hv. chosen-answered sought ps _ _ r (between ps p);
    })
