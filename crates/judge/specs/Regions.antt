-- The working space by its regions of n words, and what a step leaves in them. Assumes nothing.
use Rattle.std.specs.Prelude.{◌≡◌, ◌⊎◌, List, [], ◌∷◌, map, cond, ℕ, suc, ◌≤◌, ◌<◌, length, get_or, drop}
use Rattle.std.specs.Prelude as code
use Rattle.std.proofs.Math.Option.{Option, none, some}
use Rattle.base.specs.declared.Node.{Node}
use Rattle.base.specs.Lists.{places, view}
use Rattle.base.specs.Limits.{top_mark}
use Rattle.tree.specs.Parents.{word, depth}
use Rattle.tree.specs.Forest.{order}
use Rattle.tree.specs.Faults.{meets_top}

-- an entry that the code finds, where it finds one, as its number
abbrev pub found : code.Option Node → Option ℕ
found (code.Some v) = some v.0
found code.None = none

-- the word of a chain of siblings that starts with an entry, or of an empty one
abbrev pub chain : code.Option Node → ℕ
chain (code.Some v) = v.0
chain code.None = top_mark

-- the entries from i on whose word is v; the later siblings of j
abbrev pub from : List ℕ → ℕ → ℕ → List ℕ
from ps i v = places (drop i ps) i v

abbrev pub after : List ℕ → ℕ → List ℕ
after ps j = from ps (suc j) (word ps j)

-- the first of a list, or the top mark
abbrev pub first_of : List ℕ → ℕ
first_of [] = top_mark
first_of (x ∷ l) = x

-- no word is stray
abbrev pub NoStray : List ℕ → Type 0
NoStray ps = (v : ℕ) → v < length ps → (word ps v < length ps) ⊎ (word ps v ≡ top_mark)

-- of the entries from i on, `head` has each entry's first child, `next` each one's next sibling, and r is the first top
pub record Linked (ps : List ℕ) (i : ℕ) (head next : List ℕ) (r : ℕ) : Type 0 where
  pub heads : (v : ℕ) → v < length ps → get_or head v 0 ≡ first_of (from ps i v)
  pub nexts : (j : ℕ) → i ≤ j → j < length ps → get_or next j 0 ≡ first_of (after ps j)
  pub tops : r ≡ first_of (from ps i top_mark)

-- `marks` has 1 for each entry whose climb meets the top, and else 0
abbrev pub Marked : List ℕ → List ℕ → Type 0
Marked ps marks = (v : ℕ) → v < length ps → get_or marks v 0 ≡ cond (meets_top ps v) 1 0

-- regions 0 and 1 hold the preorder, and the depths in that order
pub record Ordered (ps space : List ℕ) : Type 0 where
  pub orders : view 0 (length ps) space ≡ order ps
  pub depths : view (length ps) (length ps) space ≡ map (depth ps) (order ps)
