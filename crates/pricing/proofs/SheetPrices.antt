-- The price of a class by a sheet, and behind a lookup and a check. Assumes nothing.
use mathlib.Core.Path.{◌≡◌}
use mathlib.Core.List.{List}
use mathlib.Core.Option.{none, some, Option-elim}
use Prim.Native.Nat.{ℕ, ◌≤◌, ◌<◌}
use lib.IntN.{ℤ, nat_abs}
use borrow.Author.Tests.{eq-eqb, ne_eqb, le-leb, lt-leb}
use Rattle.base.specs.Numbers.{Outcome, accepted, bad_sum, gap}
use Rattle.base.specs.Amounts.{most_sum}
use Rattle.money.specs.Premium.{premium}
use Rattle.bands.specs.Bands.{Band, band_of}
use Rattle.sheets.specs.Verdicts.{Verdict, naming}
use Rattle.pricing.specs.Quotes.{costing, refusing, sheet_premium, class_price, sheet_price}

-- the price of a class
module _ (bs : List Band) (sum : ℤ) (class : ℕ) where
  pub class-outside : most_sum < nat_abs sum → class_price bs sum class ≡ refusing (naming bad_sum 0)
  unfolding class_price
  class-outside h = rw (lt-leb (nat_abs sum) most_sum h)

  module _ (h : nat_abs sum ≤ most_sum) where
    pub class-unheld : band_of bs class (nat_abs sum) ≡ none → class_price bs sum class ≡ refusing (naming (gap class) (nat_abs sum))
    unfolding class_price sheet_premium Option-elim
    class-unheld e = rw (le-leb (nat_abs sum) most_sum h, e)

    pub class-held : (b : Band) → band_of bs class (nat_abs sum) ≡ some b → class_price bs sum class ≡ costing (accepted class) (premium sum b.rate)
    unfolding class_price sheet_premium Option-elim
    class-held b e = rw (le-leb (nat_abs sum) most_sum h, e)

-- the price behind a lookup and a check
module _ (v : Verdict) (bs : List Band) (sum : ℤ) (o : Outcome) where
  pub price-unfound : (o.number ≡ 0 → ⊥) → sheet_price v bs sum o ≡ refusing (naming o 0)
  unfolding sheet_price
  price-unfound n = rw (ne_eqb o.number 0 n)

  pub price-refused : o.number ≡ 0 → (v.number ≡ 0 → ⊥) → sheet_price v bs sum o ≡ refusing v
  unfolding sheet_price
  price-refused e n = rw (eq-eqb o.number 0 e, ne_eqb v.number 0 n)

  pub price-found : o.number ≡ 0 → v.number ≡ 0 → sheet_price v bs sum o ≡ class_price bs sum o.word
  unfolding sheet_price
  price-found e z = rw (eq-eqb o.number 0 e, eq-eqb v.number 0 z)
