-- `judging::judge_text` meets its contract. Assumes nothing.
use mathlib.Core.Path.{refl, sym, ap}
use Rattle.std.proofs.lemmas.Result.{err_from_is_err_and}
use Rattle.sheets.specs.Verdicts.{judged}
use Rattle.sheets.proofs.Readings.{whole-sound}
use Rattle.sheets.proofs.judging.judge_text.Goals as goal

pub returns-in_err-m : goal.returns-in_err-m
unfolding judged
returns-in_err-m c =
    let p = err_from_is_err_and c.from_residual.result c.from_residual.ensures.1 in
    let (k, line, bad) = c.in_err-m.ensures in
    rw (p.1, p.2, line) (record { is = sym (ap (judged _ _) bad); kept = refl; checked = tt })

pub returns : goal.returns
returns c =
    let (bs, e, m, few, stored) = c.in_ok-m.ensures in
    rw e (c.judge_bands.ensures bs m (whole-sound _ _ _ bs e) stored)
