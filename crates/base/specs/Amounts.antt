-- The ranges of rates and sums, the parts of a cent (2026-01), and the most lines of a sheet (2026-02). Assumes nothing.
use Rattle.std.specs.Prelude.{Bool, ℕ, leb, ℤ, nat_abs}

-- a rate is "from 0 to 1,000,000 per million"
abbrev pub most_rate : ℕ
most_rate = 1000000

-- a sum insured is "a whole number from −2,000,000,000 to 2,000,000,000"
abbrev pub most_sum : ℕ
most_sum = 2000000000

abbrev pub legal_sum : ℤ → Bool
legal_sum sum = leb (nat_abs sum) most_sum

-- sum times rate "divided by 10,000" is in cents
abbrev pub cent_parts : ℕ
cent_parts = 10000

-- a sheet has "up to 4,096 lines"
abbrev pub most_lines : ℕ
most_lines = 4096
