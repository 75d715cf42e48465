-- What a question with money promises of its quote r on a table t of any contents, beside what `answers` has of its answer: one definition a clause. Assumes nothing.
use Rattle.std.specs.Prelude.{◌≡◌, List, ℕ, length}
use Rattle.table.specs.Preparing.{Prepared}
use Rattle.answers.specs.Answers.{SameAt}
use Rattle.money.specs.declared.Price.{Price}
use Rattle.premiums.specs.Quotes.{price}
use Rattle.premiums.specs.declared.Quote.{Quote}

-- every table of the same length with the same words in the listed cells has the same quote
abbrev pub Local : (List ℕ → Quote) → List ℕ → Quote → Type 0
Local quote t r = (u : List ℕ) → length u ≡ length t → SameAt r.answer t u → quote u ≡ r

-- for every list from which the table is prepared, the price is what the question means on that list
abbrev pub Right : (List ℕ → Price) → List ℕ → Quote → Type 0
Right meaning t r = (ps : List ℕ) → Prepared ps t → price r ≡ meaning ps
