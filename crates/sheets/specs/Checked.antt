-- A checked sheet in 8,193 words: its level and how many lines it has, the keys of its bands in increasing order, and a word for each line. Assumes nothing.
use Rattle.std.specs.Prelude.{◌≡◌, List, ℕ, ◌+◌, ◌/◌, ◌%◌, ◌≤◌, min, get_or}
use Rattle.base.specs.Lists.{view}
use Rattle.base.specs.Amounts.{most_sum, most_lines}
use Rattle.sorting.specs.Orders.{Ascending}
use Rattle.bands.specs.Bands.{Band, covers, SameBands}
use Rattle.sheets.specs.Keys.{key_bands, Legal}

abbrev pub sheet_words : ℕ
sheet_words = 1 + most_lines + most_lines

-- what one level counts in the first word
abbrev pub level_unit : ℕ
level_unit = 4294967296

-- the level and the number of lines that a first word states, of any words
abbrev pub head_level : ℕ → ℕ
head_level head = head / level_unit

abbrev pub head_lines : ℕ → ℕ
head_lines head = min (head % level_unit) most_lines

abbrev pub level_in : List ℕ → ℕ
level_in sheet = head_level (get_or sheet 0 0)

abbrev pub lines_in : List ℕ → ℕ
lines_in sheet = head_lines (get_or sheet 0 0)

unfoldable pub keys_in : List ℕ → List ℕ
keys_in sheet = view 1 (lines_in sheet) sheet

unfoldable pub words_in : List ℕ → List ℕ
words_in sheet = view (1 + most_lines) most_lines sheet

-- no amount of a class is in two bands
abbrev pub Single : List Band → ℕ → Type 0
Single bs c = (a : ℕ) → a ≤ most_sum → covers bs c a ≤ 1

-- what the words of a checked sheet of level d with bands bs satisfy
pub record Checked (sheet : List ℕ) (d : ℕ) (bs : List Band) : Type 0 where
  pub level : level_in sheet ≡ d
  pub legal : Legal (words_in sheet) (keys_in sheet)
  pub ascending : Ascending (keys_in sheet)
  pub bands : SameBands bs (key_bands (words_in sheet) (keys_in sheet))
  pub single : (c : ℕ) → Single bs c
