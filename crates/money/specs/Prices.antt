-- What a sum costs in a class at a rate, for every rate and every sum. Assumes nothing.
use Rattle.std.specs.Prelude.{cond, ℕ, leb, ℤ, pos}
use Rattle.base.specs.Numbers.{Outcome, accepted, bad_rate, bad_sum}
use Rattle.base.specs.Amounts.{most_rate, legal_sum}
use Rattle.money.specs.Premium.{premium}
use Rattle.money.specs.declared.Price.{Price}

-- an outcome with cents
abbrev pub costing : Outcome → ℤ → Price
costing o c = record { number = o.number; word = o.word; cents = record { 0 = c } }

-- "beside its number, name and cells a refused answer holds 0"
abbrev pub refused : Outcome → Price
refused o = costing o (pos 0)

-- a rate over its limit, "and then a sum outside its range", is refused; else the class is named, with the premium
unfoldable pub priced : ℕ → ℕ → ℤ → Price
priced class rate sum =
    cond (leb rate most_rate)
    (cond (legal_sum sum) (costing (accepted class) (premium sum rate)) (refused bad_sum))
    (refused bad_rate)
