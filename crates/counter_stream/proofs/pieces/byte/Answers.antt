-- `pieces::byte` meets its contract. Assumes nothing.
use Rattle.std.proofs.Common.{sym, ◌∙◌, arith}
use Rattle.counter_stream.proofs.Bytes.{end-feeds, byte-feeds, long-feeds, ended-feeds}
use Rattle.counter_stream.proofs.Lengths.{room-kept}
use Rattle.counter_stream.proofs.pieces.byte.Goals as goal

pub returns-then-is_at_end-clause-fed : goal.returns-then-is_at_end-clause-fed
returns-then-is_at_end-clause-fed c =
    rw c.last.ensures (ended-feeds c.args.state _ c.requires _ _ (sym c.is_at_end.ensures ∙ c.if-is_at_end.true) c.new.ensures)

pub returns-then-b-eq10-clause-fed : goal.returns-then-b-eq10-clause-fed
returns-then-b-eq10-clause-fed c =
    end-feeds c.args.state _ c.requires _ _ c.if-b-eq10.true _ _ (room-kept _ _ c.whole_line.ensures.lent c.requires.fits.room) c.whole_line.ensures.turned

pub returns-then-held-ge-LINE_ROOM-clause-fed : goal.returns-then-held-ge-LINE_ROOM-clause-fed
returns-then-held-ge-LINE_ROOM-clause-fed c =
    rw c.last-then-held-ge-LINE_ROOM.ensures
    (long-feeds c.args.state _ c.requires _ _ c.if-b-eq10.false (omega (arith, c.if-held-ge-LINE_ROOM.true)) (sym c.is_at_end.ensures ∙ c.if-is_at_end.false) c.bad_line.ensures)

pub returns-clause-fed : goal.returns-clause-fed
returns-clause-fed c =
    byte-feeds c.args.state _ c.requires _ _ c.if-b-eq10.false (omega (arith, c.if-held-ge-LINE_ROOM.false)) c.new-2.ensures
