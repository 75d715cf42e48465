-- A quote in words: those of the lookup's answer, where number and result word give way to the price's. Assumes nothing.
use mathlib.Core.Path.{◌≡◌, refl, ap, ◌∙◌}
use mathlib.Core.List.{List}
use Prim.Native.Nat.{ℕ}
use lib.ListN.{set}
use lib.IntN.{ℤ}
use Rattle.answers.specs.Answers.{answer_words}
use Rattle.answers.specs.declared.Answer.{Answer}
use Rattle.query.proofs.Ratings.{rated, first_two, outcome-words, renamed-words}
use Rattle.sheets.specs.Verdicts.{check_to, bands_on}
use Rattle.sheets.specs.Checked.{level_in}
use Rattle.pricing.specs.Quotes.{sheet_price, quoted, money_of, looked, price_to}
use Rattle.pricing.specs.Promises.{QuotationWords}
use Rattle.pricing.specs.Parts.{BySheet}
use Rattle.pricing.specs.declared.prices.SheetPrice.{SheetPrice}
use Rattle.pricing.proofs.Promises.{quotation}

-- by a text
module _ (t text : List ℕ) (v d : ℕ) (sum : ℤ) (p : SheetPrice) (w : List ℕ) (words : w ≡ answer_words (looked t v d))
    (is : p ≡ sheet_price (check_to t d text) (bands_on t d text) sum (first_two w)) where
  price-is : quoted p (looked t v d).cells ≡ price_to t text v d sum
  unfolding price_to
  price-is = ap (λ x. quoted x (looked t v d).cells) (is ∙ ap (sheet_price (check_to t d text) (bands_on t d text) sum) (outcome-words (looked t v d) w words))

  pub price-words : (set (set w 0 p.number) 1 p.word ≡ answer_words (price_to t text v d sum).answer) × (record { amount = p.amount; cents = p.cents } ≡ money_of (price_to t text v d sum))
  price-words = (renamed-words (looked t v d) w words p.number p.word ∙ ap (λ q. answer_words q.answer) price-is, ap money_of price-is)

-- by the words of a sheet
module _ (sheet t : List ℕ) (v : ℕ) (sum : ℤ) (p : SheetPrice) (w : List ℕ) (words : w ≡ answer_words (looked t v (level_in sheet))) (by : BySheet sheet sum (first_two w) p) where
  abbrev a : Answer
  a = looked t v (level_in sheet)

  pub quotation-words : QuotationWords sheet v sum t (set (set w 0 p.number) 1 p.word) (record { amount = p.amount; cents = p.cents })
  quotation-words = record {
    quote = quoted p a.cells;
    promised = quotation sheet t v sum a (rated t v (level_in sheet) a refl) p (rw (outcome-words a w words) at by);
    answer = renamed-words a w words p.number p.word;
    beside = refl;
  }
