-- The lists to try, line by line: how many, and the lengths that go with each. Assumes nothing.
use Rattle.std.specs.Prelude.{◌≡◌, ℕ, ◌+◌, ◌-◌, ◌*◌, ◌/◌, ◌<◌, ◌≤◌, cond, ◌==◌, ◌≢◌, nat_lt}
use Rattle.samples.specs.declared.cases.Case.{Case}

-- of a line: of each of seven kinds; of all small lists, and of those with parents below; of each fault and each length that is too short
unfoldable pub count_of : ℕ → ℕ
count_of line = cond (nat_lt line 7) 212 (cond (line == 14) 1440 (cond (line == 15) 11828 371))

-- W, of n entries
abbrev pub room : ℕ → ℕ
room n = 4 + 11 * n + 21 * (n / 8)

-- the lengths of a case of a line: on line 11 the list is empty, on 12 the table is too short, on 13 the space, and else both have room
pub record Lengths (line : ℕ) (c : Case) : Type 0 where
  pub few : c.n ≤ 512
  pub table : c.table ≤ 6983
  pub space : c.space ≤ 3075
  pub empty : line ≡ 11 → c.n ≡ 0
  pub short_table : line ≡ 12 → c.table < room c.n
  pub short_space : line ≡ 13 → c.space ≤ 6 * c.n - 1
  pub enough : (line ≢ 11) → (line ≢ 12) → (line ≢ 13) → (room c.n ≤ c.table) × (6 * c.n ≤ c.space)
