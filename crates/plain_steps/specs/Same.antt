-- When an answer of number a, word b, count c and cells l is a walk's. Assumes nothing.
use Rattle.std.specs.Prelude.{◌≡◌, List, ℕ, ◌<◌, get_or}
use Rattle.plain_steps.specs.declared.walking.Walk.{Walk}

-- two lists of fifteen cells are the same
abbrev pub SameCells : List ℕ → List ℕ → Type 0
SameCells k l = (i : ℕ) → i < 15 → get_or k i 0 ≡ get_or l i 0

pub record Same (w : Walk) (a b c : ℕ) (l : List ℕ) : Type 0 where
  pub number : w.number ≡ a
  pub word : w.word ≡ b
  pub count : w.count ≡ c
  pub cells : SameCells w.cells l
