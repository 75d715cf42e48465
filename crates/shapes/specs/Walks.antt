-- "A shape is the string of downs and ups of the walk round a group." Assumes nothing.
use Rattle.std.specs.Prelude.{List, [], ◌∷◌, ◌++◌, map, Bool, true, false, ◌&&◌, ℕ, zero, suc, replicate}
use Rattle.base.specs.Lists.{index}
use Rattle.tree.specs.Forest.{Forest, empty, node}

-- down to a new entry, or up to the one above
pub data Step : Type 0 where
  down up : Step

abbrev pub Walk : Type 0
Walk = List Step

-- the walk round a group with root r is the walk round the forest below r
unfoldable pub walk_round : Forest → Walk
walk_round empty = []
walk_round (node v b later) = down ∷ (walk_round b ++ (up ∷ walk_round later))

-- the walks that go on from an entry at depth c, where `fewer` has those with one down less to come: down before up
abbrev pub after : (ℕ → List Walk) → ℕ → List Walk
after fewer zero = map (◌∷◌ down) (fewer 1)
after fewer (suc c) = map (◌∷◌ down) (fewer (suc (suc c))) ++ map (◌∷◌ up) (after fewer c)

-- the walks with o downs to come that go on from an entry at depth c and end at the root, in order
abbrev pub walks : ℕ → ℕ → List Walk
walks zero c = replicate c up ∷ []
walks (suc o) c = after (walks o) c

-- the shapes of up to L entries: by number of entries, then by string
abbrev pub shapes : ℕ → List Walk
shapes zero = []
shapes (suc L) = shapes L ++ walks L 0

abbrev pub same_step : Step → Step → Bool
same_step down down = true
same_step down up = false
same_step up down = false
same_step up up = true

abbrev pub same_walk : Walk → Walk → Bool
same_walk [] [] = true
same_walk [] (y ∷ ys) = false
same_walk (x ∷ xs) [] = false
same_walk (x ∷ xs) (y ∷ ys) = same_step x y && same_walk xs ys

-- the number of a shape among those of up to L entries
unfoldable pub shape_number : ℕ → Walk → ℕ
shape_number L w = index (same_walk w) (shapes L)
