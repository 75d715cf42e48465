-- "The parent list": n words, each the number of the entry above or the top mark. An entry is a node of 003. Assumes nothing.
use Rattle.std.specs.Prelude.{List, [], ◌∷◌, cond, ℕ, zero, suc, ◌-◌, length, get_or, ltb}
use Rattle.std.proofs.Math.Option.{Option, none, some, Option-elim, bind}
use Rattle.std.proofs.Math.ListN.{get_elem?}
use Rattle.base.specs.Lists.{places}

-- entry v's word
abbrev pub word : List ℕ → ℕ → ℕ
word ps v = get_or ps v 0

-- v, where it is an entry
unfoldable pub entry : List ℕ → ℕ → Option ℕ
entry ps v = cond (ltb v (length ps)) (some v) none

-- the entry above v. Nothing stands above the top, nor above a number that is no entry
unfoldable pub parent : List ℕ → ℕ → Option ℕ
parent ps v = bind (get_elem? ps v) (entry ps)

-- the entry that k climbs from v reach, if there is one
unfoldable pub up : List ℕ → ℕ → ℕ → Option ℕ
up ps zero v = entry ps v
up ps (suc k) v = bind (parent ps v) (up ps k)

-- v and the entries above it, nearest first: m of them at most
unfoldable pub climb_within : List ℕ → ℕ → ℕ → List ℕ
climb_within ps zero v = []
climb_within ps (suc m) v = v ∷ Option-elim (parent ps v) [] (climb_within ps m)

-- the climb of v. One that meets the top passes at most n entries
abbrev pub climb : List ℕ → ℕ → List ℕ
climb ps v = climb_within ps (length ps) v

-- depth: the top's is 0, any other entry's is its parent's plus 1
unfoldable pub depth : List ℕ → ℕ → ℕ
depth ps v = length (climb ps v) - 1

-- the entries whose word is v, in increasing number: v's children, or the tops where v is the top mark
abbrev pub children : List ℕ → ℕ → List ℕ
children ps v = places ps 0 v
