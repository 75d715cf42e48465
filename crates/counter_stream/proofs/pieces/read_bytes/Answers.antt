-- `pieces::read_bytes` meets its contract: the first bytes of the piece are read, and what they print is written. Assumes nothing.
use Rattle.counter_stream.proofs.Lengths.{loan-same, loan-then}
use Rattle.counter_stream.proofs.pieces.Prefixes.{partway_start, partway-more}
use Rattle.counter_stream.proofs.pieces.read_bytes.Goals as goal

pub loop-used-init : goal.loop-used-init
loop-used-init c = record { partway = partway_start c.args.state _ _ c.requires _; lent = loan-same _ }

pub loop-used-preserved : goal.loop-used-preserved
loop-used-preserved c =
    let l = c.loop-used in
    let put = c.put-written in
    record {
      partway = partway-more c.args.state _ _ c.requires l.out l.at _ l.used l.written l.invariant.partway c.loop-used-test.true _ _ _ c.byte-step.ensures.fed _ _ put.ensures.fits put.ensures.printed;
      lent = loan-then _ _ _ l.invariant.lent c.byte-step.ensures.lent;
    }
