-- Words of 32 bits, and what is left of a division. Assumes nothing.
use Rattle.std.specs.Prelude.{ℕ, ◌%◌, cond, ◌==◌, nat_le}

-- a number as a word: 0 where it is more than a word holds
unfoldable pub narrowed : ℕ → ℕ
narrowed x = cond (nat_le x 4294967295) x 0

-- what is left of a by b: 0 where b is 0
unfoldable pub remainder_of : ℕ → ℕ → ℕ
remainder_of a b = cond (b == 0) 0 (a % b)
