-- What the two questions promise of their answer o on a table t of any contents: one definition a clause. Assumes nothing.
use Rattle.std.specs.Prelude.{◌≡◌, ◌⊎◌, true, List, [], ◌∷◌, ℕ, ◌+◌, ◌-◌, ◌*◌, ◌<◌, length}
use Rattle.base.specs.Lists.{has}
use Rattle.base.specs.Numbers.{Outcome, broken}
use Rattle.tree.specs.Parents.{depth}
use Rattle.table.specs.Preparing.{Prepared}
use Rattle.answers.specs.Answers.{listed, answer_words}
use Rattle.common_ancestors.specs.Common.{Nearest}
use Rattle.common_ancestors.specs.Admission.{admission}

-- what a result is less than, of n entries: a class is an entry, and climbs are fewer than twice the entries
abbrev pub class_bound : ℕ → ℕ
class_bound n = n

abbrev pub climb_bound : ℕ → ℕ
climb_bound n = 2 * n

-- the refusal where there is one; else a result within a bound for that many entries, or 9: "for a table that preparing didn't write, anything further is open"
pub record OnAnyTable (most : ℕ → ℕ) (t : List ℕ) (u v : ℕ) (o : Outcome) : Type 0 where
  pub refused : ((admission t u v).number ≡ 0 → ⊥) → o ≡ admission t u v
  pub settled : (admission t u v).number ≡ 0 → ((o.number ≡ 0) × (o.word < most (admission t u v).word)) ⊎ (o ≡ broken)

-- the numbers that both give
abbrev pub numbers : List ℕ
numbers = 0 ∷ 7 ∷ 9 ∷ []

-- the number is one of a list
abbrev pub Gives : List ℕ → Outcome → Type 0
Gives ns o = has ns o.number ≡ true

-- for every list from which the table is prepared, the answer is what the question means on that list
abbrev pub Right : (List ℕ → Outcome) → List ℕ → Outcome → Type 0
Right meaning t o = (ps : List ℕ) → Prepared ps t → o ≡ meaning ps

-- the nearest common ancestor was found
pub record Shares (ps : List ℕ) (u v : ℕ) (o : Outcome) : Type 0 where
  pub found : o.number ≡ 0
  pub nearest : Nearest ps u v o.word

-- the climbs through it were counted
pub record Counts (ps : List ℕ) (u v : ℕ) (o : Outcome) : Type 0 where
  pub found : o.number ≡ 0
  pub class : ℕ
  pub nearest : Nearest ps u v class
  pub climbs : o.word ≡ depth ps u + depth ps v - 2 * depth ps class

-- for every list from which the table is prepared, every question about two entries is answered
abbrev pub Known : (List ℕ → ℕ → ℕ → Outcome → Type 0) → ℕ → ℕ → List ℕ → Outcome → Type 0
Known answered u v t o = (ps : List ℕ) → Prepared ps t → u < length ps → v < length ps → answered ps u v o

-- an answer in eighteen words, as the other questions' are: "it lists no cells"
abbrev pub without_cells : Outcome → List ℕ
without_cells o = answer_words (record { number = o.number; word = o.word; cells = listed [] })

-- the same promises of an answer in words
pub record Words (most : ℕ → ℕ) (meaning : List ℕ → Outcome) (answered : List ℕ → ℕ → ℕ → Outcome → Type 0) (t : List ℕ) (u v : ℕ) (words : List ℕ) : Type 0 where
  pub answer : Outcome
  pub written : words ≡ without_cells answer
  pub any : OnAnyTable most t u v answer
  pub gives : Gives numbers answer
  pub right : Right meaning t answer
  pub known : Known answered u v t answer
