-- `judging::judge_bands` meets its contract. Assumes nothing.
use mathlib.Core.Path.{refl}
use Rattle.std.proofs.lemmas.Result.{err_from_is_err_and}
use Rattle.base.proofs.RefusalNumbers.{refused-numbered}
use Rattle.sheets.proofs.judging.Judgements.{ascending, legal, fault-judged, accepted-judged, accepted-checked}
use Rattle.sheets.proofs.judging.judge_bands.Goals as goal

pub lowest_fault-requires : goal.lowest_fault-requires
lowest_fault-requires c =
    let p = c.requires in (
      legal _ _ _ _ _ p.0 p.1 p.3 c.sort.auto.keys c.sort.ensures p.5,
      ascending _ c.args.words.now _ _ _ p.0 p.1 p.3 c.sort.auto.keys c.sort.ensures,
      p.4,
    )

pub returns-in_err-lowest_fault : goal.returns-in_err-lowest_fault
returns-in_err-lowest_fault c bs m e s =
    let p = c.requires in
    let q = err_from_is_err_and c.from_residual.result c.from_residual.ensures.1 in
    rw (q.1, q.2)
    (record { is = fault-judged _ _ _ _ _ p.0 p.1 p.3 c.sort.auto.keys c.sort.ensures _ _ bs s _ c.in_err-lowest_fault.ensures (refused-numbered _); kept = refl; checked = tt })

pub returns : goal.returns
returns c bs m e s =
    let p = c.requires in
    record {
      is = accepted-judged _ _ _ _ _ p.0 p.1 p.3 c.sort.auto.keys c.sort.ensures _ _ bs s (record { number = 0; word = 0; amount = 0 }) c.in_ok-lowest_fault.ensures refl _ m;
      kept = tt;
      checked =
          rw c.keep.ensures
          (accepted-checked _ _ _ _ _ p.0 p.1 p.3 c.sort.auto.keys c.sort.ensures _ _ bs s (record { number = 0; word = 0; amount = 0 }) c.in_ok-lowest_fault.ensures refl p.2 e);
    }
