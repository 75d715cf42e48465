-- What the parts of a question hand on. Assumes nothing.
use Rattle.std.specs.Prelude.{◌≡◌, ℕ, ◌-◌, ◌<◌, ◌≤◌, Bool, true, false, cond, List, [], ◌∷◌, length, ◌==◌, nat_lt, slice_index, Option, Some, None, Result, Ok, Err}
use Rattle.std.proofs.Math.Option.{none}
use Rattle.base.specs.Limits.{group_limit, depth_cell}
use Rattle.base.specs.Numbers.{unknown, too_deep, broken}
use Rattle.shapes.specs.Climbs.{reached}
use Rattle.shapes.specs.Packed.{Packs}
use Rattle.answers.specs.Reading.{Reading, done, read, if_le}
use Rattle.answers.specs.Answers.{pick_cells, pushed, listed, answer_of, answer_from, answer_words}
use Rattle.answers.specs.Steps.{opened, ancestor_at}
use Rattle.answers.specs.Steps.{broken as broken_at}
use Rattle.answers.specs.declared.Cells.{Cells}
use Rattle.answers.specs.declared.Answer.{Answer}
use Rattle.query.specs.Reads.{Held}
use Rattle.query.specs.declared.reading.Table.{Table}
use Rattle.query.specs.declared.reading.Entry.{Entry}
use Rattle.query.specs.declared.relate.Relation.{Relation}

-- the cells of step 4: four at most, none of them cell 0
pub record JumpCells (cs : Cells) : Type 0 where
  pub held : Held cs.count cs
  pub four : cs.count ≤ 4
  pub used : (i : ℕ) → i < cs.count → 0 < slice_index cs.at i

-- how much a place adds to the count of such cells
abbrev pub one_of : ℕ → ℕ
one_of cell = cond (cell == 0) 0 1

abbrev pub pick_answer : Bool → Answer → Answer → Answer
pick_answer true a b = a
pick_answer false a b = b

-- an entry with local number `local` in a group of shape `shape`, and its field of the shape's word
pub record InGroup (n group shape local field : ℕ) : Type 0 where
  pub group-in : group < n
  pub packs : Packs shape local field
  pub local-in : reached group_limit shape local 0 ≡ none → ⊥

-- the cells that step 1 reads of a table of `len` words
unfoldable pub first_of : ℕ → Cells
first_of len = pick_cells (nat_lt len 4) (listed []) (pushed (listed []) 0)

-- step 1 was taken on the words t: any program goes on from the table that they are, or ends there
abbrev pub Opened : List ℕ → Option Table → Type 0
Opened t None = (next : ℕ → Reading) → answer_of broken (first_of (length t)) ≡ answer_from t (listed []) (opened (length t) next)
Opened t (Some r) = (r.words.now ≡ t) × ((next : ℕ → Reading) → answer_from t (listed (0 ∷ [])) (next r.n) ≡ answer_from t (listed []) (opened (length t) next))

-- steps 1 and 2 up to the depth of v, as the programs of the lookups start. Then `next`, with the number of entries and that depth
unfoldable pub finding : ℕ → ℕ → (ℕ → ℕ → Reading) → Reading
finding len v next = opened len (λ n. if_le n v (done (unknown v)) (read (depth_cell n v) (λ depth. if_le n depth broken_at (next n depth))))

-- they were taken on the words t: any program goes on from the entry v or, where there is none, has ended in the words of its answer
abbrev pub FoundBy : List ℕ → ℕ → Option Entry → List ℕ → Type 0
FoundBy t v None words = (next : ℕ → ℕ → Reading) → words ≡ answer_words (answer_from t (listed []) (finding (length t) v next))
FoundBy t v (Some e) words =
    (e.table.words.now ≡ t)
    × (e.v.0 ≡ v)
    × ((next : ℕ → ℕ → Reading) → answer_from t (listed (0 ∷ depth_cell e.table.n v ∷ [])) (next e.table.n e.depth) ≡ answer_from t (listed []) (finding (length t) v next))

-- so many climbs above v of that depth; where there are none, v is too deep
abbrev pub climbed : ℕ → ℕ → ℕ → Option ℕ → Reading
climbed n v depth None = done (too_deep v)
climbed n v depth (Some k) = ancestor_at n v (depth - k) depth

-- what a relation of u to v gives two programs, one for "at or above" and one for not; or the refusal
abbrev pub related_from : Result Relation Answer → (ℕ → Reading) → Reading → Answer
related_from (Ok r) above apart = pick_answer r.above (answer_from r.table.words.now r.cells.cells (above r.table.n)) (answer_from r.table.words.now r.cells.cells apart)
related_from (Err a) above apart = a
