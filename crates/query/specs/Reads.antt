-- A word of a table that was read, and the cells read so far. Assumes nothing.
use Rattle.std.specs.Prelude.{◌≡◌, ℕ, List, length, take}
use Rattle.base.specs.Lists.{padded}
use Rattle.answers.specs.Reading.{word_at}
use Rattle.answers.specs.Answers.{pushed}
use Rattle.answers.specs.declared.Cells.{Cells}

-- k cells were read: a list of them, unused places 0
abbrev pub Held : ℕ → Cells → Type 0
Held k cs = (length (take k cs.at) ≡ k) × (cs.count ≡ k) × (cs.at ≡ padded 15 (take k cs.at))

-- one word was read, and its cell listed behind others
pub record Reads (t : List ℕ) (cell : ℕ) (cs : Cells) (word : ℕ) (more : Cells) : Type 0 where
  pub word-is : word ≡ word_at t cell
  pub more-is : more ≡ pushed cs cell
