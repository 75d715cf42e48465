-- The shape table: the local number reached from each local number of each shape by each number of climbs. Assumes nothing.
use Rattle.std.specs.Prelude.{◌≡◌, List, [], ◌∷◌, ℕ, suc, ◌<◌, get_or, drop}
use Rattle.std.proofs.Math.Option
use Rattle.std.proofs.Math.Option.{Option, none, some, bind, Option-elim}
use Rattle.std.proofs.Math.ListN.{get_elem?}
use Rattle.base.specs.Lists.{below}
use Rattle.base.specs.Limits.{top_mark}
use Rattle.tree.specs.Parents.{depth}
use Rattle.tree.specs.Parents.{up as climb_up}
use Rattle.shapes.specs.Walks.{down, up, Walk, shapes}

-- for each down of a walk the local number that it goes down from, where `path` has the local numbers from where the walk stands
-- up to the root, and m is the next local number
abbrev pub parents : Walk → List ℕ → ℕ → List ℕ
parents [] path m = []
parents (down ∷ w) path m = get_or path 0 0 ∷ parents w (m ∷ path) (suc m)
parents (up ∷ w) path m = parents w (drop 1 path) m

-- a shape's own parent list, over local numbers: the root has number 0
unfoldable pub parent_list : Walk → List ℕ
parent_list w = top_mark ∷ parents w (0 ∷ []) 1

-- the local number that k climbs from local number l reach in shape s of the limit L: none where there is no such shape, local number or climb
unfoldable pub reached : ℕ → ℕ → ℕ → ℕ → Option ℕ
reached L s l k = bind (get_elem? (shapes L) s) (λ w. climb_up (parent_list w) k l)

-- the depth of local number l in shape s
unfoldable pub local_depth : ℕ → ℕ → ℕ → ℕ
local_depth L s l = Option-elim (get_elem? (shapes L) s) 0 (λ w. depth (parent_list w) l)

-- the climbs that lead from local number l out of a group of shape s, one more than its depth; 0 where there is no such shape or local number
unfoldable pub climbs_out : ℕ → ℕ → ℕ → ℕ
climbs_out L s l = Option-elim (reached L s l 0) 0 (λ j. suc (local_depth L s l))

-- 255 stands for none
abbrev pub mark : Option ℕ → ℕ
mark o = Option.get_or o 255

-- a shape's part of the shape table: a row of climbs for each local number
unfoldable pub row_of : ℕ → ℕ → ℕ → List ℕ
row_of L s l = below L (λ k. mark (reached L s l k))

unfoldable pub rows_of : ℕ → ℕ → List (List ℕ)
rows_of L s = below L (row_of L s)

-- the cell where the climb gives o: the local number reached, which is no 255; or 255 where there is none
abbrev pub CellOf : Option ℕ → ℕ → Type 0
CellOf none c = c ≡ 255
CellOf (some j) c = (c ≡ j) × (c < 255)

-- the rule of the shape table for the rows of shape s: each cell is what the climb in the shape's string gives
abbrev pub Rule : ℕ → ℕ → List (List ℕ) → Type 0
Rule L s rows = (l k : ℕ) → l < L → k < L → CellOf (reached L s l k) (get_or (get_or rows l []) k 0)
