-- "An answer carries up to fifteen cell numbers and their count." Assumes nothing.
use Rattle.std.specs.Prelude.{List, [], ◌∷◌, ◌++◌, Bool, true, false, ◌≡◌, ℕ, ◌+◌, ◌<◌, length, get_or, set, ltb}
use Rattle.base.specs.Lists.{padded}
use Rattle.base.specs.Numbers.{Outcome}
use Rattle.answers.specs.Reading.{Reading, done, read, word_at, run, trace}
use Rattle.answers.specs.declared.Cells.{Cells}
use Rattle.answers.specs.declared.Answer.{Answer}

abbrev pub pick_cells : Bool → Cells → Cells → Cells
pick_cells true a b = a
pick_cells false a b = b

-- the list with one cell more, where it has room
unfoldable pub pushed : Cells → ℕ → Cells
pushed cs cell = pick_cells (ltb cs.count 15) (record { at = set cs.at cs.count cell; count = cs.count + 1 }) cs

-- the list with more cells, one after another
unfoldable pub pushed_all : Cells → List ℕ → Cells
pushed_all cs [] = cs
pushed_all cs (x ∷ xs) = pushed_all (pushed cs x) xs

-- a list of cells as an answer carries it: unused places are 0
unfoldable pub listed : List ℕ → Cells
listed xs = record { at = padded 15 xs; count = length xs }

-- an answer without its cells
abbrev pub outcome : Answer → Outcome
outcome r = record { number = r.number; word = r.word }

-- the answer of an outcome, with cells
abbrev pub answer_of : Outcome → Cells → Answer
answer_of o cs = record { number = o.number; word = o.word; cells = cs }

-- the answer of a program on a table
unfoldable pub answer_to : List ℕ → Reading → Answer
answer_to t p = record { number = (run t p).number; word = (run t p).word; cells = listed (trace t p) }

-- the answer of what is left of a program, after the cells read so far
unfoldable pub answer_from : List ℕ → Cells → Reading → Answer
answer_from t cs (done o) = record { number = o.number; word = o.word; cells = cs }
answer_from t cs (read cell k) = answer_from t (pushed cs cell) (k (word_at t cell))

-- an answer in words: its number and result word, fifteen places of cells, and their count
unfoldable pub answer_words : Answer → List ℕ
answer_words r = r.number ∷ r.word ∷ (r.cells.at ++ (r.cells.count ∷ []))

-- two tables have the same words in the cells that an answer lists
abbrev pub SameAt : Answer → List ℕ → List ℕ → Type 0
SameAt r t u = (i : ℕ) → i < r.cells.count → word_at t (get_or r.cells.at i 0) ≡ word_at u (get_or r.cells.at i 0)
