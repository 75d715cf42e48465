-- `whole_lines::question_line` meets its contract. Assumes nothing.
use Rattle.std.proofs.Common.{◌≡◌, take, length, ap, ◌∙◌, arith}
use Rattle.base.specs.Limits.{table_words}
use Rattle.answers.specs.Answers.{answer_to}
use Rattle.answers.specs.Steps.{level}
use Rattle.lines.specs.Counter.{reply_row, answer_row}
use Rattle.counter_stream.specs.Loans.{lent_by}
use Rattle.counter_stream.proofs.Fitness.{question-fits}
use Rattle.counter_stream.proofs.whole_lines.LineEnds.{question-bad, question-fine}
use Rattle.counter_stream.proofs.whole_lines.question_line.Goals as goal

pub returns-in_default : goal.returns-in_default
returns-in_default c =
    rw c.last.ensures (question-bad c.args.state (lent_by c.args.workspace.now) _ _ _ _ c.requires.phase c.in_default.ensures c.bad_line.ensures)

pub returns : goal.returns
unfolding answer_row
returns c =
    let t = c.args.workspace.now.table.now in
    let n = c.args.state.count in
    let q = c.in-Some.question in
    let w : c.table_words.result ≡ table_words n = c.table_words.ensures in
    let r = c.level-answer.ensures.answer ∙ ap (λ k. answer_to (take k t) (level (length (take k t)) q.entry.0 q.depth)) w in
    question-fine c.args.state (lent_by c.args.workspace.now) (lent_by c.args.workspace.now) _ _ _ c.requires.phase _ c.in-Some.ensures (c.reply_row-text.ensures ∙ ap (λ a. reply_row q.entry.0 q.depth a.number a.word a.cells.count) r) (question-fits _ _ c.requires.phase c.requires.due.fits) (omega arith)
