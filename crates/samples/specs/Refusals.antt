-- The number of each refusal, with what its answer names. Assumes nothing.
use Rattle.std.specs.Prelude.{ℕ, Result, Ok, Err}
use Rattle.samples.specs.declared.refusals.Refusal.{Refusal}
use Rattle.samples.specs.declared.refusals.Refusal.TheVariants.{NoEntries, ShortTable, ShortSpace, Stray, Tops, Lost, Unknown, TooDeep, Broken, NotAbove, BadRate, BadSum, BadLine, Gap, Shared}

abbrev pub number_of : Refusal → ℕ
number_of NoEntries = 1
number_of ShortTable = 2
number_of ShortSpace = 3
number_of (Stray v) = 4
number_of (Tops v) = 5
number_of (Lost v) = 6
number_of (Unknown v) = 7
number_of (TooDeep v) = 8
number_of Broken = 9
number_of (NotAbove v) = 10
number_of BadRate = 11
number_of BadSum = 12
number_of (BadLine line) = 13
number_of (Gap class amount) = 14
number_of (Shared class amount) = 15

-- the entry, the line, the class or the count that is named, and 0 where nothing is
abbrev pub word_of : Refusal → ℕ
word_of (Stray v) = v
word_of (Tops v) = v
word_of (Lost v) = v
word_of (Unknown v) = v
word_of (TooDeep v) = v
word_of (NotAbove v) = v
word_of (BadLine line) = line
word_of (Gap class amount) = class
word_of (Shared class amount) = class
word_of other = 0

-- the amount beside a class
abbrev pub amount_of : Refusal → ℕ
amount_of (Gap class amount) = amount
amount_of (Shared class amount) = amount
amount_of other = 0

-- an answer's number and word: 0 and what is found, or a refusal's
abbrev pub numbers_of : Result ℕ Refusal → ℕ × ℕ
numbers_of (Ok word) = (0, word)
numbers_of (Err refusal) = (number_of refusal, word_of refusal)
