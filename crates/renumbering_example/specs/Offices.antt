-- What a sum costs for an entry, from an office's parent list and its rates or its sheet. Assumes nothing.
use Rattle.std.specs.Prelude.{List, ℕ, length, ℤ}
use Rattle.std.proofs.Math.Option.{Option-elim}
use Rattle.tree.specs.Questions.{rating_of}
use Rattle.table.specs.Preparing.{refusal}
use Rattle.money.specs.Prices.{refused}
use Rattle.money.specs.declared.Price.{Price}
use Rattle.premiums.specs.Quotes.{price_of}
use Rattle.sheets.specs.Verdicts.{naming}
use Rattle.pricing.specs.Quotes.{refusing, price_on}
use Rattle.pricing.specs.declared.prices.SheetPrice.{SheetPrice}

-- an office: its parent list, its rates or the bytes of its sheet, how long a table and a space it lends, and the entry that it asks for
pub record Office : Type 0 where
  pub list : List ℕ
  pub tariff : List ℕ
  pub table : ℕ
  pub space : ℕ
  pub entry : ℕ

abbrev pub office : List ℕ → List ℕ → List ℕ → List ℕ → ℕ → Office
office list tariff table space v = record { list = list; tariff = tariff; table = length table; space = length space; entry = v }

-- the refusal of its call of preparing, and else what the premium question means on the list
unfoldable pub premium_from : Office → ℕ → ℤ → Price
premium_from o d sum = Option-elim (refusal o.list o.table o.space) (price_of o.tariff sum (rating_of o.list o.entry d)) refused

-- and else what the question with a sheet means on it
unfoldable pub price_from : Office → ℕ → ℤ → SheetPrice
price_from o d sum = Option-elim (refusal o.list o.table o.space) (price_on o.list o.tariff o.entry d sum) (λ x. refusing (naming x 0))
