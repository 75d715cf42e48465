-- How the code holds a sheet's bands: a key for each, with its class, its `from` and its line in falling weight, and a word for each line with its `to` and its rate.
-- Assumes nothing.
use Rattle.std.specs.Prelude.{◌≡◌, List, map, ℕ, ◌/◌, ◌%◌, ◌≤◌, ◌<◌, length, get_or, take}
use Rattle.base.specs.Limits.{most_entries}
use Rattle.base.specs.Amounts.{most_sum, most_rate}
use Rattle.bands.specs.Bands.{Band}

-- what one class and one amount count in a key, and how many amounts there are; what one amount counts in a word
abbrev pub class_unit : ℕ
class_unit = 8796093022208

abbrev pub from_unit : ℕ
from_unit = 4096

abbrev pub from_span : ℕ
from_span = 2147483648

abbrev pub to_unit : ℕ
to_unit = 1048576

-- the parts of a key: class · 2^43 + from · 2^12 + line
abbrev pub key_class : ℕ → ℕ
key_class k = k / class_unit

abbrev pub key_from : ℕ → ℕ
key_from k = k / from_unit % from_span

abbrev pub key_line : ℕ → ℕ
key_line k = k % from_unit

-- the parts of a line's word: to · 2^20 + rate
abbrev pub word_to : ℕ → ℕ
word_to w = w / to_unit

abbrev pub word_rate : ℕ → ℕ
word_rate w = w % to_unit

unfoldable pub band_at : List ℕ → ℕ → Band
band_at words k = record { class = key_class k; from = key_from k; to = word_to (get_or words (key_line k) 0); rate = word_rate (get_or words (key_line k) 0) }

-- the bands of keys, in their order
unfoldable pub key_bands : List ℕ → List ℕ → List Band
key_bands words keys = map (band_at words) keys

-- each key's class is one of the most entries there are, its line has its word, no band is empty or reaches past the last amount, and its rate is within its limit
pub record Legal (words keys : List ℕ) : Type 0 where
  pub known : (i : ℕ) → i < length keys → key_class (get_or keys i 0) < most_entries
  pub lined : (i : ℕ) → i < length keys → key_line (get_or keys i 0) < length words
  pub ordered : (i : ℕ) → i < length keys → key_from (get_or keys i 0) ≤ word_to (get_or words (key_line (get_or keys i 0)) 0)
  pub within : (i : ℕ) → i < length keys → word_to (get_or words (key_line (get_or keys i 0)) 0) ≤ most_sum
  pub limit : (i : ℕ) → i < length keys → word_rate (get_or words (key_line (get_or keys i 0)) 0) ≤ most_rate

-- the first `at` keys, each with its line's number, stand for the bands of so many lines
pub record Stored (words keys : List ℕ) (at : ℕ) (bs : List Band) : Type 0 where
  pub legal : Legal words (take at keys)
  pub lines : (i : ℕ) → i < at → key_line (get_or keys i 0) ≡ i
  pub bands : key_bands words (take at keys) ≡ bs
