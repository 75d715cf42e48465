-- The counter program's text: from the bytes of its input to the bytes of its output. Assumes nothing.
use Rattle.std.specs.Prelude.{List, [], ◌∷◌, ◌++◌, cond, ℕ, zero, suc, length, eqb, ltb}
use Rattle.std.proofs.Math.Option.{Option, Option-elim, or_else}
use Rattle.base.specs.Numbers.{Outcome}
use Rattle.tree.specs.Faults.{list_fault}
use Rattle.table.specs.Table.{table_of}
use Rattle.table.specs.Preparing.{count_fault}
use Rattle.answers.specs.Answers.{answer_to}
use Rattle.answers.specs.Steps.{level}
use Rattle.lines.specs.Text.{dash, line_feed, decimal, row}
use Rattle.lines.specs.Fields.{parted, count_of, parent_of, Question, question_of}

-- the most entries of a list that the program takes
abbrev pub most_listed : ℕ
most_listed = 512

-- `line,` and the number of a line that is of another form, out of turn, cut short or missing
abbrev pub bad_line : ℕ → List ℕ
bad_line k = row ((108 ∷ 105 ∷ 110 ∷ 101 ∷ []) ∷ decimal k ∷ [])

-- `list,` and the number and the name of a refused list
abbrev pub bad_list : Outcome → List ℕ
bad_list o = row ((108 ∷ 105 ∷ 115 ∷ 116 ∷ []) ∷ decimal o.number ∷ decimal o.word ∷ [])

-- `entry,depth,refusal,class,cells`
abbrev pub header_row : List ℕ
header_row = row ((101 ∷ 110 ∷ 116 ∷ 114 ∷ 121 ∷ []) ∷ (100 ∷ 101 ∷ 112 ∷ 116 ∷ 104 ∷ []) ∷ (114 ∷ 101 ∷ 102 ∷ 117 ∷ 115 ∷ 97 ∷ 108 ∷ []) ∷ (99 ∷ 108 ∷ 97 ∷ 115 ∷ 115 ∷ []) ∷ (99 ∷ 101 ∷ 108 ∷ 108 ∷ 115 ∷ []) ∷ [])

-- a question's row: entry, depth, refusal, class or `-`, count of cells
unfoldable pub reply_row : ℕ → ℕ → ℕ → ℕ → ℕ → List ℕ
reply_row v d number word cells = row (decimal v ∷ decimal d ∷ decimal number ∷ cond (eqb number 0) (decimal word) (dash ∷ []) ∷ decimal cells ∷ [])

-- the answer of the level lookup on a table
unfoldable pub answer_row : List ℕ → Question → List ℕ
answer_row table q =
    let r = answer_to table (level (length table) q.entry q.depth) in
    reply_row q.entry q.depth r.number r.word r.cells.count

-- The input is given by its lines: what stands before each line feed, and last what stands behind the last one. k is the next line's number.
-- "then `Q,entry,depth` lines", on a table
unfoldable pub answering : List ℕ → ℕ → List (List ℕ) → List ℕ
answering table k [] = []
answering table k ([] ∷ []) = []
answering table k ((b ∷ l) ∷ []) = bad_line k
answering table k (l ∷ m ∷ ls) = Option-elim (question_of l) (bad_line k) (λ q. answer_row table q ++ answering table (suc k) (m ∷ ls))

-- what turns a list away, in working memory that is long enough
abbrev pub fault : List ℕ → Option Outcome
fault ps = or_else (count_fault (length ps)) (list_fault ps)

-- "The header follows an accepted list. A refused list prints `list,` number `,` name, and ends."
unfoldable pub judged : List ℕ → ℕ → List (List ℕ) → List ℕ
judged ps k ls = Option-elim (fault ps) (header_row ++ answering (table_of ps) k ls) bad_list

-- "a line `P,parent` for each entry": m lines more, behind the parents ps
unfoldable pub listing : ℕ → List ℕ → ℕ → List (List ℕ) → List ℕ
listing zero ps k ls = judged ps k ls
listing (suc m) ps k [] = bad_line k
listing (suc m) ps k (l ∷ []) = bad_line k
listing (suc m) ps k (l ∷ r ∷ ls) = Option-elim (parent_of l) (bad_line k) (λ p. listing m (ps ++ (p ∷ [])) (suc k) (r ∷ ls))

-- "`N,count`", and a count of at most 512
unfoldable pub opening : List (List ℕ) → List ℕ
opening [] = bad_line 1
opening (l ∷ []) = bad_line 1
opening (l ∷ r ∷ ls) = Option-elim (count_of l) (bad_line 1) (λ n. cond (ltb most_listed n) (bad_line 1) (listing n [] 2 (r ∷ ls)))

unfoldable pub counter : List ℕ → List ℕ
counter input = opening (parted line_feed input)
