-- Each refusal of the code by the paper's number, with what it names; and an answer that is one or is none. Assumes nothing.
use Rattle.std.specs.Prelude.{ℕ, Result, Ok, Err}
use Rattle.base.specs.Numbers.{Outcome, accepted, count, short_table, short_space, stray, tops, loop, unknown, too_deep, broken, not_above, bad_rate, bad_sum, bad_line, gap, overlap}
use Rattle.base.specs.declared.refusals.Refusal.{Refusal}
use Rattle.base.specs.declared.refusals.Refusal.TheVariants.{Count, ShortTable, ShortSpace, Stray, Tops, Loop, Unknown, TooDeep, Broken, NotAbove, BadRate, BadSum, BadLine, Gap, Overlap}

-- its number and what it names
abbrev pub refused : Refusal → Outcome
refused Count = count
refused ShortTable = short_table
refused ShortSpace = short_space
refused (Stray v) = stray v.0
refused (Tops v) = tops v
refused (Loop v) = loop v.0
refused (Unknown v) = unknown v.0
refused (TooDeep v) = too_deep v.0
refused Broken = broken
refused (NotAbove u) = not_above u.0
refused BadRate = bad_rate
refused BadSum = bad_sum
refused (BadLine line) = bad_line line
refused (Gap class amount) = gap class.0
refused (Overlap class amount) = overlap class.0

-- the amount that 14 and 15 name beside the class, and 0 of any other
abbrev pub amount_of : Refusal → ℕ
amount_of (Gap class amount) = amount
amount_of (Overlap class amount) = amount
amount_of other = 0

-- an answer: 0 with the word that is accepted or found, or a refusal
abbrev pub outcome_of : Result ℕ Refusal → Outcome
outcome_of (Ok word) = accepted word
outcome_of (Err refusal) = refused refusal
