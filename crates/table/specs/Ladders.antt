-- LADDERS and LADPOS: the ladders of 003, section 3.3. Assumes nothing.
use mathlib.Core.List.{List, ◌++◌, [], map, reverse, flatten}
use Rattle.std.specs.Prelude.{ℕ, ◌+◌, length, get_or, take, drop}
use Rattle.base.specs.Lists.{keep, index, place, has}
use Rattle.tree.specs.Parents.{climb}
use Rattle.tree.specs.Forest.{height, order, path_top, path_from}

-- the h nearest ancestors of v, or all if fewer, from the top down
unfoldable pub nearest : List ℕ → ℕ → ℕ → List ℕ
nearest ps h v = reverse (take h (drop 1 (climb ps v)))

-- the ladder of the path with top t: a path of h entries is preceded by its h nearest ancestors, or all if fewer
abbrev pub ladder : List ℕ → ℕ → List ℕ
ladder ps t = nearest ps (height ps t) t ++ path_from ps t

-- the tops of the long paths, in preorder
abbrev pub path_tops : List ℕ → List ℕ
path_tops ps = keep (path_top ps) (order ps)

-- the ladders, in preorder of their paths' tops
unfoldable pub ladders : List ℕ → List (List ℕ)
ladders ps = map (ladder ps) (path_tops ps)

-- v's own path, by its number among the paths
unfoldable pub own_path : List ℕ → ℕ → ℕ
own_path ps v = index (λ t. has (path_from ps t) v) (path_tops ps)

-- LADPOS: v's index, from the section's start, in its own path's ladder
unfoldable pub lad_pos : List ℕ → ℕ → ℕ
lad_pos ps v = length (flatten (take (own_path ps v) (ladders ps))) + place v (get_or (ladders ps) (own_path ps v) [])
