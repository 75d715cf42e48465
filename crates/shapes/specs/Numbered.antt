-- The number of a group's shape, by the depths of its entries. Assumes nothing.
use Rattle.std.specs.Prelude.{◌≡◌, List, ◌∷◌, ◌++◌, ℕ, suc, ◌≤◌, drop}
use Rattle.base.specs.Limits.{group_limit, shape_count}
use Rattle.tree.specs.Forest.{Forest, levels, forest_size}
use Rattle.shapes.specs.Walks.{walk_round, shape_number}

-- where these are the depths of a group in preorder, its root's first, r is the number of its shape; where they are those of none, it is `shape_count`
pub record Numbered (group : List ℕ) (r : ℕ) : Type 0 where
  pub is : (f : Forest) (d : ℕ) → group ≡ d ∷ levels (suc d) f → r ≡ shape_number group_limit (walk_round f)
  pub small : r ≤ shape_count
  pub none : ((f : Forest) (d : ℕ) → group ≡ d ∷ levels (suc d) f → ⊥) → r ≡ shape_count

-- what holds of the forest below the root of each group of so many entries that stands at a position of a list of depths in preorder
abbrev pub OfGroup : List ℕ → ℕ → ℕ → (Forest → Type 0) → Type 0
OfGroup depths from entries P =
    (f : Forest) (d : ℕ) (rest : List ℕ) → drop from depths ≡ d ∷ (levels (suc d) f ++ rest) → entries ≡ suc (forest_size f) → entries ≤ group_limit → P f
