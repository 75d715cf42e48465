-- `pieces::read_bytes` meets its contract: the first bytes of the piece are read, and what they print is written. Assumes nothing.
use Rattle.counter_stream.specs.Loans.{lent_by, SameLoan}
use Rattle.counter_stream.proofs.pieces.Prefixes.{Partway}
use Rattle.counter_stream.proofs.pieces.read_bytes.Given as goal

abbrev pub invariant-loop-used : goal.invariant-loop-used
invariant-loop-used l =
    record {
      partway : Partway l.initial.at (lent_by l.initial.workspace) l.input l.out l.at (lent_by l.workspace) l.used l.written;
      lent : SameLoan l.initial.workspace l.workspace;
    }
