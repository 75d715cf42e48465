-- The ordered forest of a parent list: size, height, preorder, long paths. Assumes nothing.
use Rattle.std.specs.Prelude.{List, [], ◌∷◌, ◌++◌, Bool, true, false, cond, not, ℕ, zero, suc, ◌+◌, max, length, eqb, leb}
use Rattle.std.proofs.Math.Option.{Option, none, some, Option-elim}
use Rattle.base.specs.Lists.{place}
use Rattle.base.specs.Limits.{top_mark}
use Rattle.tree.specs.Parents.{parent, children}

-- an ordered forest: an entry, the forest below it, and its later siblings
pub data Forest : Type 0 where
  empty : Forest
  node : ℕ → Forest → Forest → Forest

-- the forest with first level vs, where f gives what is below each entry
unfoldable pub plant : (ℕ → Forest) → List ℕ → Forest
plant f [] = empty
plant f (v ∷ vs) = node v (f v) (plant f vs)

-- the forest of m levels whose first level is vs: children come in increasing number
unfoldable pub grow : List ℕ → ℕ → List ℕ → Forest
grow ps zero vs = empty
grow ps (suc m) vs = plant (λ v. grow ps m (children ps v)) vs

-- the entries in preorder: an entry, all below it, then its later siblings
unfoldable pub preorder : Forest → List ℕ
preorder empty = []
preorder (node v b later) = v ∷ (preorder b ++ preorder later)

-- the depths in preorder, of a forest whose first level has depth d
unfoldable pub levels : ℕ → Forest → List ℕ
levels d empty = []
levels d (node v b later) = d ∷ (levels (suc d) b ++ levels d later)

-- how many entries; how many levels
unfoldable pub forest_size : Forest → ℕ
forest_size empty = 0
forest_size (node v b later) = suc (forest_size b) + forest_size later

unfoldable pub forest_height : Forest → ℕ
forest_height empty = 0
forest_height (node v b later) = max (suc (forest_height b)) (forest_height later)

-- the first level's entry of greatest height, the lowest number on a tie
unfoldable pub tallest : Forest → Option ℕ
tallest empty = none
tallest (node v b later) = cond (leb (forest_height later) (suc (forest_height b))) (some v) (tallest later)

-- the path down a forest that always continues to the entry of greatest height
unfoldable pub spine : Forest → List ℕ
spine empty = []
spine (node v b later) = cond (leb (forest_height later) (suc (forest_height b))) (v ∷ spine b) (spine later)

-- what is below entry v, and the whole: n entries have at most n levels
abbrev pub under : List ℕ → ℕ → Forest
under ps v = grow ps (length ps) (children ps v)

abbrev pub whole : List ℕ → Forest
whole ps = grow ps (length ps) (children ps top_mark)

-- size counts the entry and all below it
abbrev pub size : List ℕ → ℕ → ℕ
size ps v = suc (forest_size (under ps v))

-- height counts entries: a leaf has 1
abbrev pub height : List ℕ → ℕ → ℕ
height ps v = suc (forest_height (under ps v))

-- the entry and all below it, in preorder
abbrev pub family : List ℕ → ℕ → List ℕ
family ps v = v ∷ preorder (under ps v)

-- the entries in preorder, and an entry's position there
abbrev pub order : List ℕ → List ℕ
order ps = preorder (whole ps)

abbrev pub position : List ℕ → ℕ → ℕ
position ps v = place v (order ps)

-- the child to which v's long path continues
abbrev pub long_child : List ℕ → ℕ → Option ℕ
long_child ps v = tallest (under ps v)

-- v is the top of a long path: the top entry, or not the child to which its parent's path continues
unfoldable pub path_top : List ℕ → ℕ → Bool
path_top ps v = Option-elim (parent ps v) true (λ p. not (Option-elim (long_child ps p) false (eqb v)))

-- the long path from v down
abbrev pub path_from : List ℕ → ℕ → List ℕ
path_from ps v = v ∷ spine (under ps v)
