-- `whole_lines::count_line` meets its contract. Assumes nothing.
use Rattle.std.proofs.Common.{◌≡◌, ◌+◌, ◌-◌, arith}
use Rattle.counter_stream.specs.Loans.{lent_by}
use Rattle.counter_stream.proofs.Fitness.{count_fits}
use Rattle.counter_stream.proofs.whole_lines.LineEnds.{count-bad, count-large, count-fine}
use Rattle.counter_stream.proofs.whole_lines.count_line.Goals as goal

pub returns-in_default-clause-turned : goal.returns-in_default-clause-turned
returns-in_default-clause-turned c =
    rw c.last.ensures (count-bad c.args.state (lent_by c.args.workspace.now) _ _ _ _ c.requires.phase c.in_default.ensures c.bad_line.ensures)

pub returns-then-count-gt-MOST_LISTED-clause-turned : goal.returns-then-count-gt-MOST_LISTED-clause-turned
returns-then-count-gt-MOST_LISTED-clause-turned c =
    rw c.last-then-count-gt-MOST_LISTED.ensures
    (count-large c.args.state (lent_by c.args.workspace.now) _ _ _ _ c.requires.phase _ c.in-Some.ensures c.if-count-gt-MOST_LISTED.true c.bad_line-then-count-gt-MOST_LISTED.ensures)

pub returns-clause-turned : goal.returns-clause-turned
returns-clause-turned c =
    let y : c.args.state.line + 1 ≡ 2 = omega (arith, count_fits _ _ c.requires.phase c.requires.due.fits) in
    let z : c.in-Some.count - 0 ≡ c.in-Some.count = omega arith in
    rw y (count-fine c.args.state (lent_by c.args.workspace.now) _ _ _ _ c.requires.phase _ _ c.in-Some.ensures (omega (arith, c.if-count-gt-MOST_LISTED.false)) (rw z at c.list_so_far.ensures.turned))
