-- What a premium question answers, on any table, list of rates, entry, level and sum (2026-01). Assumes nothing.
use Rattle.std.specs.Prelude.{cond, List, ℕ, length, get_or, ltb, eqb, ℤ}
use Rattle.base.specs.Numbers.{Outcome, bad_rate}
use Rattle.answers.specs.Answers.{answer_to, outcome}
use Rattle.answers.specs.Steps.{rating}
use Rattle.answers.specs.declared.Answer.{Answer}
use Rattle.answers.specs.declared.Cells.{Cells}
use Rattle.money.specs.Prices.{refused, priced}
use Rattle.money.specs.declared.Price.{Price}
use Rattle.premiums.specs.declared.Quote.{Quote}

-- the price of a sum in a class by "a list of rates, one for each entry number from 0": a class past the list's end is refused
unfoldable pub class_price : List ℕ → ℤ → ℕ → Price
class_price rates sum class = cond (ltb class (length rates)) (priced class (get_or rates class 0) sum) (refused bad_rate)

-- the price of a sum where the rating lookup has an outcome: "It refuses, after the lookup's own numbers, .."
unfoldable pub price_of : List ℕ → ℤ → Outcome → Price
price_of rates sum o = cond (eqb o.number 0) (class_price rates sum o.word) (refused o)

-- a price with the cells of a lookup, and a quote without its cells
abbrev pub quoted : Price → Cells → Quote
quoted p cells = record { answer = record { number = p.number; word = p.word; cells = cells }; cents = p.cents }

abbrev pub price : Quote → Price
price r = record { number = r.answer.number; word = r.answer.word; cents = r.cents }

-- a lookup's answer with its price
abbrev pub quote_of : List ℕ → ℤ → Answer → Quote
quote_of rates sum a = quoted (price_of rates sum (outcome a)) a.cells

-- the premium question: "The class comes from the rating lookup with its cells."
unfoldable pub quote_to : List ℕ → List ℕ → ℕ → ℕ → ℤ → Quote
quote_to t rates v d sum = quote_of rates sum (answer_to t (rating (length t) v d))
