-- What a question with a sheet answers, on any table, text, entry, level and sum (2026-02). Assumes nothing.
use Rattle.std.specs.Prelude.{cond, List, ℕ, length, eqb, ℤ, pos, nat_abs}
use Rattle.std.proofs.Math.Option.{Option, map, Option-elim}
use Rattle.base.specs.Numbers.{Outcome, accepted, bad_sum, gap}
use Rattle.base.specs.Amounts.{legal_sum}
use Rattle.tree.specs.Questions.{rating_of}
use Rattle.answers.specs.Answers.{answer_to, outcome}
use Rattle.answers.specs.Steps.{rating}
use Rattle.answers.specs.declared.Answer.{Answer}
use Rattle.answers.specs.declared.Cells.{Cells}
use Rattle.money.specs.Premium.{premium}
use Rattle.bands.specs.Bands.{Band, band_of}
use Rattle.sheets.specs.Texts.{sheet_of, bands_in}
use Rattle.sheets.specs.Verdicts.{Verdict, naming, verdict, depths_of, check_to, bands_on}
use Rattle.pricing.specs.declared.prices.SheetPrice.{SheetPrice}
use Rattle.pricing.specs.declared.BandQuote.{BandQuote}
use Rattle.pricing.specs.declared.Money.{Money}

-- an outcome with cents; and a refusal, which "beside its number, name and cells holds 0"
abbrev pub costing : Outcome → ℤ → SheetPrice
costing o c = record { number = o.number; word = o.word; amount = 0; cents = record { 0 = c } }

abbrev pub refusing : Verdict → SheetPrice
refusing v = record { number = v.number; word = v.word; amount = v.amount; cents = record { 0 = pos 0 } }

-- the premium of a sum in a class by a sheet: "at the rate of the band that holds it", and "bands are of the sum's size without its sign"
unfoldable pub sheet_premium : List Band → ℕ → ℤ → Option ℤ
sheet_premium bs class sum = map (λ b. premium sum b.rate) (band_of bs class (nat_abs sum))

-- the price of a sum in a class: 12 outside its range; 14 with class and size where no band holds the size; in an accepted sheet each class has a band for every legal size
unfoldable pub class_price : List Band → ℤ → ℕ → SheetPrice
class_price bs sum class =
    cond (legal_sum sum)
    (Option-elim (sheet_premium bs class sum) (refusing (naming (gap class) (nat_abs sum))) (costing (accepted class)))
    (refusing (naming bad_sum 0))

-- the price where the rating lookup has an outcome: "Pricing gives these too, after the lookup's numbers and before 12"
unfoldable pub sheet_price : Verdict → List Band → ℤ → Outcome → SheetPrice
sheet_price v bs sum o = cond (eqb o.number 0) (cond (eqb v.number 0) (class_price bs sum o.word) (refusing v)) (refusing (naming o 0))

-- a price with the cells of a lookup, and a quote without its cells
abbrev pub quoted : SheetPrice → Cells → BandQuote
quoted p cells = record { answer = record { number = p.number; word = p.word; cells = cells }; amount = p.amount; cents = p.cents }

abbrev pub price : BandQuote → SheetPrice
price r = record { number = r.answer.number; word = r.answer.word; amount = r.amount; cents = r.cents }

abbrev pub money_of : BandQuote → Money
money_of r = record { amount = r.amount; cents = r.cents }

-- the question: "a question with a sheet lists only its rating lookup's" cells
abbrev pub looked : List ℕ → ℕ → ℕ → Answer
looked t v d = answer_to t (rating (length t) v d)

unfoldable pub price_to : List ℕ → List ℕ → ℕ → ℕ → ℤ → BandQuote
price_to t text v d sum = quoted (sheet_price (check_to t d text) (bands_on t d text) sum (outcome (looked t v d))) (looked t v d).cells

-- what it means on the list alone
unfoldable pub price_on : List ℕ → List ℕ → ℕ → ℕ → ℤ → SheetPrice
price_on ps text v d sum = sheet_price (verdict (depths_of ps) d text) (bands_in (sheet_of (depths_of ps) d text)) sum (rating_of ps v d)
