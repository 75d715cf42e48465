-- What the parts of a question with a sheet hand on. Assumes nothing.
use Rattle.std.specs.Prelude.{◌≡◌, ◌⊎◌, List, ℕ, ◌≤◌, ◌<◌, ℤ, nat_abs}
use Rattle.base.specs.Numbers.{Outcome, accepted, bad_sum, gap}
use Rattle.base.specs.Amounts.{most_sum, most_rate}
use Rattle.money.specs.Premium.{premium}
use Rattle.bands.specs.Bands.{Band}
use Rattle.sheets.specs.Verdicts.{naming}
use Rattle.sheets.specs.Checked.{Checked}
use Rattle.pricing.specs.Quotes.{costing, refusing, class_price}
use Rattle.pricing.specs.declared.prices.SheetPrice.{SheetPrice}

-- what a class is offered by the words of any sheet: 12 outside the range of sums, 14 with class and size, or the premium at some rate within its limit
pub record Offer (sum : ℤ) (class : ℕ) (p : SheetPrice) : Type 0 where
  pub outside : most_sum < nat_abs sum → p ≡ refusing (naming bad_sum 0)
  pub inside : nat_abs sum ≤ most_sum → (p ≡ refusing (naming (gap class) (nat_abs sum))) ⊎ ((rate : ℕ) × (rate ≤ most_rate) × (p ≡ costing (accepted class) (premium sum rate)))

-- a price by the words of a sheet, behind a lookup's outcome: the lookup's refusal; else an offer, which is the class's price where they are a checked sheet's
pub record BySheet (sheet : List ℕ) (sum : ℤ) (o : Outcome) (p : SheetPrice) : Type 0 where
  pub refusal : (o.number ≡ 0 → ⊥) → p ≡ refusing (naming o 0)
  pub priced : o.number ≡ 0 → (d : ℕ) (bs : List Band) → Checked sheet d bs → p ≡ class_price bs sum o.word
  pub offer : o.number ≡ 0 → Offer sum o.word p
