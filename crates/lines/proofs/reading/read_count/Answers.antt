-- `reading::read_count` meets its contract. Assumes nothing.
use Rattle.std.proofs.Common.{ap, ◌∙◌}
use Rattle.base.specs.Options.{option_of}
use Rattle.lines.proofs.LineFields.{count_none, count-read}
use Rattle.lines.proofs.reading.read_count.Goals as goal

pub returns-in_err-strip_prefix : goal.returns-in_err-strip_prefix
returns-in_err-strip_prefix c = ap option_of c.from_residual.ensures ∙ count_none _ c.in_err-strip_prefix.ensures.cases

pub returns : goal.returns
returns c =
    let p = c.in_ok-strip_prefix.ensures.cases in
    count-read _ p.0 _ p.1 _ c.read_number.ensures
