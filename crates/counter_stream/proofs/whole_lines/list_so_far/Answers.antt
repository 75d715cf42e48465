-- `whole_lines::list_so_far` meets its contract. Assumes nothing.
use Rattle.std.proofs.Common.{refl, ◌∙◌}
use Rattle.base.proofs.RefusalNumbers.{refused-numbered}
use Rattle.counter_stream.proofs.whole_lines.Lists.{more-to-come, list-taken, list-refused}
use Rattle.counter_stream.proofs.whole_lines.list_so_far.Goals as goal

pub returns-then-state-clause-turned : goal.returns-then-state-clause-turned
returns-then-state-clause-turned c = more-to-come c.args.state _ c.requires _ c.if-state.true c.new.ensures

pub returns-in-Ok-clause-turned : goal.returns-in-Ok-clause-turned
returns-in-Ok-clause-turned c =
    let p = c.in-Ok.ensures in
    list-taken c.args.state _ c.requires _ c.if-state.false _ refl _ p.answer refl c.header_row.ensures _ p.prepared

pub returns-in-Err-clause-turned : goal.returns-in-Err-clause-turned
returns-in-Err-clause-turned c =
    rw c.last.ensures (list-refused c.args.state _ c.requires _ c.if-state.false _ refl _ c.in-Err.ensures.answer (refused-numbered c.in-Err.refusal) (c.bad_list.ensures ∙ rw (c.number.ensures, c.word.ensures)) _)
