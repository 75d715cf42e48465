-- What a question promises of its answer r on a table t of any contents: one definition a clause. The question's program is a reading program for each
-- length of a table. Assumes nothing.
use Rattle.std.specs.Prelude.{◌≡◌, List, [], ◌∷◌, true, ℕ, ◌≤◌, ◌<◌, min, length}
use Rattle.base.specs.Lists.{has}
use Rattle.base.specs.Numbers.{Outcome}
use Rattle.base.specs.Limits.{entries_of, depth_cell}
use Rattle.tree.specs.Parents.{depth}
use Rattle.tree.specs.Level.{RatingClass}
use Rattle.table.specs.Preparing.{Prepared}
use Rattle.answers.specs.Reading.{Reading, word_at}
use Rattle.answers.specs.Answers.{listed, answer_to, outcome, SameAt}
use Rattle.answers.specs.Steps.{level}
use Rattle.answers.specs.declared.Answer.{Answer}

-- number, result word, all fifteen places and the count are those of the program
abbrev pub Answers : (ℕ → Reading) → List ℕ → Answer → Type 0
Answers program t r = r ≡ answer_to t (program (length t))

-- the number is one of a list
abbrev pub Gives : List ℕ → Answer → Type 0
Gives numbers r = has numbers r.number ≡ true

-- no more than so many cells are listed
abbrev pub Few : ℕ → Answer → Type 0
Few most r = r.cells.count ≤ most

-- every table of the same length with the same words in the listed cells has the same answer
abbrev pub Local : (ℕ → Reading) → List ℕ → Answer → Type 0
Local program t r = (u : List ℕ) → length u ≡ length t → SameAt r t u → answer_to u (program (length u)) ≡ r

-- for every list from which the table is prepared, number and result word are what the question means on that list
abbrev pub Right : (List ℕ → Outcome) → List ℕ → Answer → Type 0
Right meaning t r = (ps : List ℕ) → Prepared ps t → outcome r ≡ meaning ps

-- the word of v in DEPTH, of as many entries as cell 0 states
abbrev pub depth_word : List ℕ → ℕ → ℕ
depth_word t v = word_at t (depth_cell (entries_of (word_at t 0)) v)

-- the rating lookup (2026-04) answers as the level lookup at the smaller of the rating level and the entry's depth
abbrev pub Smaller : ℕ → ℕ → List ℕ → Answer → Type 0
Smaller v d t r = r ≡ answer_to t (level (length t) v (min d (depth_word t v)))

-- the rating of an entry: its class, for at most ten cells; an entry of depth d or less is its own class, for cell 0 and its DEPTH alone
pub record RatedEntry (ps : List ℕ) (v d : ℕ) (r : Answer) : Type 0 where
  pub found : r.number ≡ 0
  pub class : RatingClass ps v d r.word
  pub few : Few 10 r
  pub own : depth ps v ≤ d → r ≡ record { number = 0; word = v; cells = listed (0 ∷ depth_cell (length ps) v ∷ []) }

-- for every list from which the table is prepared, every rating of an entry is an answer
abbrev pub RatesKnown : ℕ → ℕ → List ℕ → Answer → Type 0
RatesKnown v d t r = (ps : List ℕ) → Prepared ps t → v < length ps → RatedEntry ps v d r
