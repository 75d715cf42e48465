-- The premium by its distance from sum times rate, without a word of rounding. Assumes nothing.
use Rattle.std.specs.Prelude.{◌≡◌, ℕ, ◌*◌, ◌≤◌, ◌<◌, ℤ, pos, nat_abs, ◌-ℤ◌, ◌*ℤ◌}
use Rattle.base.specs.Amounts.{cent_parts}

-- how far c cents are from sum times rate, in parts of a cent
abbrev pub distance : ℤ → ℕ → ℤ → ℕ
distance sum rate c = nat_abs (pos cent_parts *ℤ c -ℤ sum *ℤ pos rate)

-- c cents are at most half a cent off; and where they are half a cent off, on the half rule's side: farther from zero than sum times rate
pub record NearestCents (sum : ℤ) (rate : ℕ) (c : ℤ) : Type 0 where
  pub near : 2 * distance sum rate c ≤ cent_parts
  pub side : 2 * distance sum rate c ≡ cent_parts → nat_abs (sum *ℤ pos rate) < cent_parts * nat_abs c
