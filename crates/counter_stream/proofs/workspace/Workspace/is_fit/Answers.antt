-- `Workspace::is_fit` meets its contract. Assumes nothing.
use Rattle.std.proofs.Common.{sym, ◌∙◌, inl, inr, true}
use Rattle.counter_stream.specs.Loans.{lent_by}
use Rattle.counter_stream.proofs.LineFeeds.{has-any}
use Rattle.counter_stream.proofs.Fitness.{no_place, no_phase, place-fits}
use Rattle.counter_stream.proofs.workspace.Workspace.is_fit.Goals as goal

pub returns-then-not-has_room : goal.returns-then-not-has_room
returns-then-not-has_room c =
    let b = lent_by c.args.self.now in
    elim c.then-not-has_room.branch [
      | goal.then-not-has_room-via-then-not-has_room w ↦ no_place c.args.state b (inl (sym c.has_room.ensures ∙ w.if-not-has_room.true))
      | goal.then-not-has_room-via-else-not-has_room+then-state-gt-LINE_ROOM w ↦ no_place c.args.state b (inr w.if-state-gt-LINE_ROOM.true)
    ]

pub returns-then-phase_fits : goal.returns-then-phase_fits
returns-then-phase_fits c =
    place-fits c.args.state (lent_by c.args.self.now) (sym c.has_room.ensures ∙ c.if-not-has_room.false) c.if-state-gt-LINE_ROOM.false true _ (sym (sym c.phase_fits.ensures ∙ c.if-phase_fits.true)) (c.contains.ensures.value ∙ has-any _)

pub returns-else-phase_fits : goal.returns-else-phase_fits
returns-else-phase_fits c =
    c.if-phase_fits.false ∙ no_phase c.args.state (lent_by c.args.self.now) (sym c.has_room.ensures ∙ c.if-not-has_room.false) c.if-state-gt-LINE_ROOM.false (sym c.phase_fits.ensures ∙ c.if-phase_fits.false)
