-- Sums by sign and size, and the cents of a premium, by plain arithmetic. Assumes nothing.
use Rattle.std.specs.Prelude.{ℕ, ◌+◌, ◌*◌, ◌/◌, Bool, cond, ℤ, pos, negsuc, neg_ℤ, nat_le}

-- a size with a sign: the least number of 64 bits where the size is over the greatest
unfoldable pub signed_of : Bool → ℕ → ℤ
signed_of b size = cond (nat_le size 9223372036854775807) (cond b (neg_ℤ (pos size)) (pos size)) (negsuc 9223372036854775807)

-- size times rate: 0 where either is over its limit
unfoldable pub parts_of : ℕ → ℕ → ℕ
parts_of size rate = cond (nat_le size 2000000000) (cond (nat_le rate 1000000) (size * rate) 0) 0

-- so many parts of a cent in whole cents, a half up: 0 where they are over the greatest product
unfoldable pub cents_of : ℕ → ℕ
cents_of parts = cond (nat_le parts 2000000000000000) ((2 * parts + 10000) / 20000) 0
