-- `pieces::feed` meets its contract. Assumes nothing.
use Rattle.std.proofs.Common.{refl, sym, ◌∙◌, inl, inr}
use Rattle.counter_stream.specs.Loans.{lent_by}
use Rattle.counter_stream.proofs.Fitness.{ready_of, unfit}
use Rattle.counter_stream.proofs.Bytes.{unfit-feeds}
use Rattle.counter_stream.proofs.pieces.feed.Goals as goal

pub read_bytes-requires : goal.read_bytes-requires
read_bytes-requires c =
    ready_of c.args.state (lent_by c.args.workspace.now) _ (sym c.is_numbered.ensures ∙ c.if-is_numbered.true) (sym c.is_fit.ensures ∙ c.if-is_fit.true)

pub returns-clause-printed : goal.returns-clause-printed
returns-clause-printed c =
    let b = lent_by c.args.workspace.now in
    let away = unfit c.args.state b _ (elim c.else-is_numbered.branch [
      | goal.else-is_numbered-via-then-is_numbered+else-is_fit w ↦ inr (sym w.is_fit.ensures ∙ w.if-is_fit.false)
      | goal.else-is_numbered-via-else-is_numbered w ↦ inl (sym c.is_numbered.ensures ∙ w.if-is_numbered.false)
    ]) in
    rw c.end.ensures (unfit-feeds c.args.state b _ _ _ _ away refl)
