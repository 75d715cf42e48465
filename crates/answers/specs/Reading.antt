-- A question as a reading program: it ends with an outcome, or reads one cell of the table and goes on with the word there. The outcome and
-- the cells read, on any table, are two functions of the program. Assumes nothing.
use Rattle.std.specs.Prelude.{◌≡◌, List, [], ◌∷◌, cond, ℕ, zero, suc, get_or, ltb, leb, eqb}
use Rattle.std.proofs.Math.Option.{Option, Option-elim}
use Rattle.base.specs.Numbers.{Outcome}

pub data Reading : Type 0 where
  done : Outcome → Reading
  read : ℕ → (ℕ → Reading) → Reading

-- tests on the way
unfoldable pub if_le : ℕ → ℕ → Reading → Reading → Reading
if_le a b p q = cond (leb a b) p q

unfoldable pub if_lt : ℕ → ℕ → Reading → Reading → Reading
if_lt a b p q = cond (ltb a b) p q

unfoldable pub if_eq : ℕ → ℕ → Reading → Reading → Reading
if_eq a b p q = cond (eqb a b) p q

-- a program where there is no number, and one for a number that there is
unfoldable pub if_none : Option ℕ → Reading → (ℕ → Reading) → Reading
if_none o p q = Option-elim o p q

-- a program, and then what f makes of its outcome
unfoldable pub and_then : Reading → (Outcome → Reading) → Reading
and_then (done o) f = f o
and_then (read cell k) f = read cell (λ w. and_then (k w) f)

-- the word of a cell
abbrev pub word_at : List ℕ → ℕ → ℕ
word_at t cell = get_or t cell 0

-- the outcome on a table
unfoldable pub run : List ℕ → Reading → Outcome
run t (done o) = o
run t (read cell k) = run t (k (word_at t cell))

-- the cells read, in the order read, a cell read twice listed twice
unfoldable pub trace : List ℕ → Reading → List ℕ
trace t (done o) = []
trace t (read cell k) = cell ∷ trace t (k (word_at t cell))

-- at most so many reads, whatever is read
unfoldable pub Within : ℕ → Reading → Type 0
Within b (done o) = Unit
Within zero (read cell k) = ⊥
Within (suc b) (read cell k) = (w : ℕ) → Within b (k w)

-- two tables have the same word in each cell of a list
abbrev pub Agree : List ℕ → List ℕ → List ℕ → Type 0
Agree t u [] = Unit
Agree t u (cell ∷ cells) = (word_at t cell ≡ word_at u cell) × Agree t u cells
