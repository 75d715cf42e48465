-- `judging::keep` meets its contract. Assumes nothing.
use Rattle.base.specs.Amounts.{most_lines}
use Rattle.sheets.proofs.judging.Words.{laid-words}
use Rattle.sheets.proofs.judging.keep.Goals as goal

pub returns : goal.returns
returns c =
    rw (c.copy_from_slice-2.ensures.after, c.copy_from_slice.ensures.after) (laid-words most_lines _ c.args.keys.now c.args.words.now c.args.sheet.now c.requires.0 c.requires.2 c.requires.3)
