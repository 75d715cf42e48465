-- The answers of preparing and of a check as the words that other languages read. Assumes nothing.
use Rattle.std.specs.Prelude.{List, [], ◌∷◌, ℕ}
use Rattle.base.specs.Numbers.{Outcome}
use Rattle.sheets.specs.Verdicts.{Verdict}

-- preparing's number, and what it names
unfoldable pub reply_words : Outcome → List ℕ
reply_words o = o.number ∷ o.word ∷ []

-- a check's number, what it names, and the amount beside it
unfoldable pub verdict_words : Verdict → List ℕ
verdict_words v = v.number ∷ v.word ∷ v.amount ∷ []
