-- The ways to a price, in the order of its refusals: each with when it comes, and with all that the price then holds. Assumes nothing.
use Rattle.std.specs.Prelude.{◌≡◌, List, ℕ, ◌≤◌, ◌<◌, length, get_or, ℤ, nat_abs}
use Rattle.base.specs.Numbers.{Outcome, accepted, bad_rate, bad_sum}
use Rattle.base.specs.Amounts.{most_rate, most_sum}
use Rattle.money.specs.Premium.{premium}
use Rattle.money.specs.Prices.{costing, refused}
use Rattle.money.specs.declared.Price.{Price}

-- the rating lookup found a class, and its rate is in the list and within its limit
pub record Rated (rates : List ℕ) (o : Outcome) : Type 0 where
  pub found : o.number ≡ 0
  pub listed : o.word < length rates
  pub limit : get_or rates o.word 0 ≤ most_rate

pub data Case (rates : List ℕ) (sum : ℤ) (o : Outcome) : Price → Type 0 where
  unfound : (o.number ≡ 0 → ⊥) → Case rates sum o (refused o)
  past : o.number ≡ 0 → length rates ≤ o.word → Case rates sum o (refused bad_rate)
  over : o.number ≡ 0 → o.word < length rates → most_rate < get_or rates o.word 0 → Case rates sum o (refused bad_rate)
  outside : Rated rates o → most_sum < nat_abs sum → Case rates sum o (refused bad_sum)
  paid : Rated rates o → nat_abs sum ≤ most_sum → Case rates sum o (costing (accepted o.word) (premium sum (get_or rates o.word 0)))
