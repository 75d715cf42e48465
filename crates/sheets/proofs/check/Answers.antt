-- `check` meets its contract. Assumes nothing.
use Rattle.sheets.specs.Verdicts.{told}
use Rattle.sheets.proofs.Theorems.{promised}
use Rattle.sheets.proofs.check.Goals as goal

pub returns : goal.returns
returns c =
    let all = promised _ _ _ (told c.check_into.result) c.check_into.ensures.answer in record { answer = all.0; numbers = all.1.0; right = all.1.1.0; accepts = all.1.1.1 }
