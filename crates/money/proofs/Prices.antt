-- When a price is refused, and what it is else. Assumes nothing.
use mathlib.Core.Path.{◌≡◌}
use Prim.Native.Nat.{ℕ, ◌≤◌, ◌<◌}
use lib.IntN.{ℤ, nat_abs}
use borrow.Author.Tests.{le-leb, lt-leb}
use Rattle.base.specs.Numbers.{accepted, bad_rate, bad_sum}
use Rattle.base.specs.Amounts.{most_rate, most_sum}
use Rattle.money.specs.Premium.{premium}
use Rattle.money.specs.Prices.{costing, refused, priced}

module _ (class rate : ℕ) (sum : ℤ) where
  pub priced-over : most_rate < rate → priced class rate sum ≡ refused bad_rate
  unfolding priced
  priced-over h = simp (lt-leb rate most_rate h)

  module _ (h : rate ≤ most_rate) where
    pub priced-outside : most_sum < nat_abs sum → priced class rate sum ≡ refused bad_sum
    unfolding priced
    priced-outside k = simp (le-leb rate most_rate h, lt-leb (nat_abs sum) most_sum k)

    pub priced-within : nat_abs sum ≤ most_sum → priced class rate sum ≡ costing (accepted class) (premium sum rate)
    unfolding priced
    priced-within k = simp (le-leb rate most_rate h, le-leb (nat_abs sum) most_sum k)
