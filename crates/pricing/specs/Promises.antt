-- What a question with a sheet promises of its quote r on a table t of any contents, beside what `answers` has of its answer: one definition a clause. Assumes nothing.
use Rattle.std.specs.Prelude.{◌≡◌, List, [], ◌∷◌, true, ℕ, ◌<◌, length, ℤ, nat_abs}
use Rattle.std.proofs.Math.Option.{some}
use Rattle.base.specs.Limits.{depth_cell}
use Rattle.base.specs.Numbers.{accepted}
use Rattle.tree.specs.Level.{RatingClass}
use Rattle.table.specs.Preparing.{Prepared}
use Rattle.answers.specs.Reading.{word_at}
use Rattle.answers.specs.Answers.{SameAt, outcome, answer_words}
use Rattle.answers.specs.Promises.{Gives, Few}
use Rattle.query.specs.StepOne.{step_one}
use Rattle.money.specs.Premium.{premium}
use Rattle.bands.specs.Bands.{Band, holds, covers, band_of}
use Rattle.sheets.specs.Verdicts.{naming, depths_of, check_to, bands_on, Good}
use Rattle.sheets.specs.Checked.{level_in, Checked}
use Rattle.pricing.specs.Quotes.{costing, refusing, class_price, quoted, price, money_of, looked, price_to}
use Rattle.pricing.specs.Parts.{Offer}
use Rattle.pricing.specs.declared.prices.SheetPrice.{SheetPrice}
use Rattle.pricing.specs.declared.BandQuote.{BandQuote}
use Rattle.pricing.specs.declared.Money.{Money}

-- cell 0 and DEPTH agree
pub record SameDepths (t u : List ℕ) : Type 0 where
  pub count : word_at u 0 ≡ word_at t 0
  pub depths : (c : ℕ) → c < (step_one t).word → word_at u (depth_cell (step_one t).word c) ≡ word_at t (depth_cell (step_one t).word c)

-- on every table of the same length with the same words in the listed cells the cells and the lookup's class or refusal are the same; so is the whole quote where the
-- lookup refuses, and where cell 0 and DEPTH agree too
pub record LocalQuote (text : List ℕ) (v d : ℕ) (sum : ℤ) (t u : List ℕ) (r : BandQuote) : Type 0 where
  pub lookup : looked u v d ≡ looked t v d
  pub cells : (price_to u text v d sum).answer.cells ≡ r.answer.cells
  pub refusal : ((looked t v d).number ≡ 0 → ⊥) → price_to u text v d sum ≡ r
  pub quote : SameDepths t u → price_to u text v d sum ≡ r

abbrev pub Local : List ℕ → ℕ → ℕ → ℤ → List ℕ → BandQuote → Type 0
Local text v d sum t r = (u : List ℕ) → length u ≡ length t → SameAt r.answer t u → LocalQuote text v d sum t u r

-- for every list from which the table is prepared, the price is what the question means on that list
abbrev pub Right : (List ℕ → SheetPrice) → List ℕ → BandQuote → Type 0
Right meaning t r = (ps : List ℕ) → Prepared ps t → price r ≡ meaning ps

-- "Each accepted sheet then prices every legal sum .. at the rate of the band that holds it": the price of an entry by a sheet that is good for the list has number 0, the
-- entry's class, and the cents at the rate of the one band of that class that holds the sum's size
pub record Priced (ps text : List ℕ) (v d : ℕ) (sum : ℤ) (p : SheetPrice) : Type 0 where
  pub class : ℕ
  pub rated : RatingClass ps v d class
  pub sheet : Good (depths_of ps) d text
  pub band : Band
  pub held : holds class (nat_abs sum) band ≡ true
  pub only : covers sheet.bands class (nat_abs sum) ≡ 1
  pub found : band_of sheet.bands class (nat_abs sum) ≡ some band
  pub priced : p ≡ costing (accepted class) (premium sum band.rate)

-- What a quotation from the words of a sheet promises. Where they are those of a sheet that the check accepts, on the table for which it does, it is the price by that sheet's
-- text; where they are those of a checked sheet, the price of the lookup's class by its bands, on any table. Whatever they hold, its cells are the rating lookup's at the level
-- that they state, so is a refusal that the lookup gives, and behind a class it gives what `Offer` has.
pub record Quotation (sheet : List ℕ) (v : ℕ) (sum : ℤ) (t : List ℕ) (r : BandQuote) : Type 0 where
  pub prices : (text : List ℕ) (d : ℕ) → (check_to t d text).number ≡ 0 → Checked sheet d (bands_on t d text) → r ≡ price_to t text v d sum
  pub banded : (d : ℕ) (bs : List Band) → Checked sheet d bs → (looked t v d).number ≡ 0 → price r ≡ class_price bs sum (looked t v d).word
  pub numbers : Gives (0 ∷ 7 ∷ 9 ∷ 12 ∷ 14 ∷ []) r.answer
  pub few : Few 10 r.answer
  pub cells : r.answer.cells ≡ (looked t v (level_in sheet)).cells
  pub refusal : ((looked t v (level_in sheet)).number ≡ 0 → ⊥) → r ≡ quoted (refusing (naming (outcome (looked t v (level_in sheet))) 0)) (looked t v (level_in sheet)).cells
  pub offer : (looked t v (level_in sheet)).number ≡ 0 → Offer sum (looked t v (level_in sheet)).word (price r)

-- the same of an answer in words, with the money beside it
pub record QuotationWords (sheet : List ℕ) (v : ℕ) (sum : ℤ) (t words : List ℕ) (money : Money) : Type 0 where
  pub quote : BandQuote
  pub promised : Quotation sheet v sum t quote
  pub answer : words ≡ answer_words quote.answer
  pub beside : money ≡ money_of quote
