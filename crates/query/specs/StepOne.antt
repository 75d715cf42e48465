-- Step 1 by itself: the number of entries, or 9 for a table that it calls broken. Assumes nothing.
use Rattle.std.specs.Prelude.{ℕ, List, length, Result, Ok, Err}
use Rattle.base.specs.Numbers.{Outcome, accepted}
use Rattle.base.specs.Refusals.{refused}
use Rattle.base.specs.declared.refusals.Refusal.{Refusal}
use Rattle.answers.specs.Reading.{done, run}
use Rattle.answers.specs.Steps.{opened}
use Rattle.query.specs.declared.reading.Table.{Table}

unfoldable pub step_one : List ℕ → Outcome
step_one t = run t (opened (length t) (λ n. done (accepted n)))

-- what step 1 gives: the table, which has its number of entries, or a refusal
abbrev pub opened_as : Result Table Refusal → Outcome
opened_as (Ok table) = accepted table.n
opened_as (Err e) = refused e
