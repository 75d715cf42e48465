-- `look::opened` meets its contract. Assumes nothing.
use Rattle.std.proofs.Common.{refl}
use Rattle.query.proofs.look.Counts.{under-words, under-mark, over-most, under-room, with-room}
use Rattle.query.proofs.look.opened.Goals as goal
use Rattle.query.proofs.look.opened.Goals.{then-cell-le-HEADER_MARK-via-then-cell-le-HEADER_MARK, then-cell-le-HEADER_MARK-via-else-cell-le-HEADER_MARK+then-cell}

pub returns-then-len-lt-HEADER : goal.returns-then-len-lt-HEADER
returns-then-len-lt-HEADER c next = under-words _ next c.if-len-lt-HEADER.true

pub returns-then-cell-le-HEADER_MARK : goal.returns-then-cell-le-HEADER_MARK
returns-then-cell-le-HEADER_MARK c next =
    let long = c.if-len-lt-HEADER.false in
    elim c.then-cell-le-HEADER_MARK.branch [
      | then-cell-le-HEADER_MARK-via-then-cell-le-HEADER_MARK w ↦ under-mark _ next long w.if-cell-le-HEADER_MARK.true
      | then-cell-le-HEADER_MARK-via-else-cell-le-HEADER_MARK+then-cell w ↦ over-most _ next long w.if-cell-le-HEADER_MARK.false w.if-cell.true
    ]

pub returns-then-len-table_words : goal.returns-then-len-table_words
returns-then-len-table_words c next =
    under-room _ next c.if-len-lt-HEADER.false c.if-cell-le-HEADER_MARK.false c.if-cell.false (rw (← c.entries_of-n.ensures, ← c.table_words.ensures) c.if-len-table_words.true)

pub returns : goal.returns
returns c = (
  refl,
  λ next. rw c.entries_of-n.ensures
      (with-room _ next c.if-len-lt-HEADER.false c.if-cell-le-HEADER_MARK.false c.if-cell.false (rw (← c.entries_of-n.ensures, ← c.table_words.ensures) c.if-len-table_words.false)),
)
