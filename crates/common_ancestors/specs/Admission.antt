-- What turns a question about two entries away, on a table of any contents. Assumes nothing.
use Rattle.std.specs.Prelude.{cond, List, ℕ, eqb}
use Rattle.base.specs.Numbers.{Outcome}
use Rattle.query.specs.StepOne.{step_one}
use Rattle.common_ancestors.specs.Common.{both_known}

-- "A table that step 1 calls broken gives 9, then unknown entries 7, first argument first"; else 0, with the number of entries
unfoldable pub admission : List ℕ → ℕ → ℕ → Outcome
admission t u v = cond (eqb (step_one t).number 0) (both_known (step_one t).word u v (step_one t)) (step_one t)
