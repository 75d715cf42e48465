-- What it is for a sheet's bands to be accepted, without a word of how a fault is found. Assumes nothing.
use Rattle.std.specs.Prelude.{◌≡◌, true, List, ℕ, ◌≤◌}
use Rattle.base.specs.Amounts.{most_sum}
use Rattle.bands.specs.Bands.{Band, is_class, covers}

-- each class "must have every amount from 0 to 2,000,000,000 in one band only"
pub record Accepted (depths : List ℕ) (d : ℕ) (bs : List Band) : Type 0 where
  pub once : (c : ℕ) → is_class depths d c ≡ true → (a : ℕ) → a ≤ most_sum → covers bs c a ≡ 1
