-- What the check of a sheet promises of its verdict r on a table t of any contents: one definition a clause. Assumes nothing.
use Rattle.std.specs.Prelude.{◌≡◌, List, true, ℕ, ◌↔◌}
use Rattle.base.specs.Lists.{has}
use Rattle.table.specs.Preparing.{Prepared}
use Rattle.sheets.specs.Verdicts.{Verdict, depths_of, verdict, Good}

-- the number is one of a list
abbrev pub Gives : List ℕ → Verdict → Type 0
Gives numbers r = has numbers r.number ≡ true

-- for every list from which the table is prepared, depths are the climb's
abbrev pub Right : ℕ → List ℕ → List ℕ → Verdict → Type 0
Right d text t r = (ps : List ℕ) → Prepared ps t → r ≡ verdict (depths_of ps) d text

-- and the sheet is accepted just where it is good for that list
abbrev pub Accepts : ℕ → List ℕ → List ℕ → Verdict → Type 0
Accepts d text t r = (ps : List ℕ) → Prepared ps t → r.number ≡ 0 ↔ Good (depths_of ps) d text
