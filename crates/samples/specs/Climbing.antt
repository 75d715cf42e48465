-- Climbs along the words of a list of any contents, in which each word is the number of the next entry. Assumes nothing.
use Rattle.std.specs.Prelude.{◌≡◌, ℕ, zero, suc, ◌<◌, ◌≤◌, List, ◌≢◌, slice_index}

-- the number that k climbs from v lead to; past the list's end the next is 0
unfoldable pub word_above : List ℕ → ℕ → ℕ → ℕ
word_above ps v zero = v
word_above ps v (suc k) = slice_index ps (word_above ps v k)

-- the first k climbs from v that lead to an entry with the top mark, or n where none below n do
pub record ToTop (ps : List ℕ) (n v k : ℕ) : Type 0 where
  pub within : k ≤ n
  pub top : k < n → slice_index ps (word_above ps v k) ≡ 4294967295
  pub before : (j : ℕ) → j < k → slice_index ps (word_above ps v j) ≢ 4294967295
